use Rattle.std.proofs.Common.{ℕ, ◌≡◌, ◌∙◌, ◌<◌, List, ap, sym, subst}
use Rattle.std.specs.List.{All}
use Rattle.aig_graph.specs.Circuits.{Netlist}
use Rattle.aig_graph.specs.Graph.{variable}
use Rattle.aig_graph.specs.Streams.{property_literals}
use Rattle.gate_sharing.specs.Copies.{copied_end}
use Rattle.map_checks.proofs.PartLaws.{properties-within}
use Rattle.map_checks.proofs.pairs.given_literals.Goals as goal

pub push_copies-requires-3 : goal.push_copies-requires-3
push_copies-requires-3 c =
    let d : Netlist = c.args.second.now in
    let is : c.as_slice-3.result.now ≡ property_literals d.props = c.as_slice-3.ensures.value ∙ c.in_ok-properties.ensures ∙ ap property_literals c.props.ensures.value in
    let P : List ℕ → Type 0 = λ lits. All (λ lit. variable lit < copied_end c.args.sides.now.after) lits in
    subst P (sym is) (subst (λ (n : ℕ). All (λ lit. variable lit < n) (property_literals d.props)) (sym c.requires.of_second) (properties-within d.aig d.props c.props.ensures.netlist.props))
