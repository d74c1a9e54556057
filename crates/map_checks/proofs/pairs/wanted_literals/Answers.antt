use Rattle.std.proofs.Common.{ℕ, ◌≡◌, ◌∙◌, ◌<◌, List, ap, sym, subst}
use Rattle.std.specs.List.{All}
use Rattle.aig_graph.specs.Circuits.{Netlist}
use Rattle.aig_graph.specs.Graph.{Graph, variable}
use Rattle.aig_graph.specs.Streams.{property_literals}
use Rattle.gate_sharing.specs.Copies.{copied_end}
use Rattle.map_checks.specs.Images.{nexts_of}
use Rattle.map_checks.proofs.ImageLaws.{nexts-within}
use Rattle.map_checks.proofs.PartLaws.{properties-within}
use Rattle.map_checks.proofs.pairs.wanted_literals.Goals as goal

pub push_copies-requires : goal.push_copies-requires
push_copies-requires c =
    let g : Graph = c.args.second.now.aig in
    let is : c.as_slice.result.now ≡ nexts_of g.latches = c.as_slice.ensures.value ∙ c.in_ok-nexts.ensures ∙ ap (λ (h : Graph). nexts_of h.latches) c.aig.ensures.value in
    let P : List ℕ → Type 0 = λ lits. All (λ lit. variable lit < copied_end c.args.sides.now.after) lits in
    subst P (sym is) (subst (λ (n : ℕ). All (λ lit. variable lit < n) (nexts_of g.latches)) (sym c.requires.long.of_second) (nexts-within g c.aig.ensures.graph))

pub push_copies-requires-2 : goal.push_copies-requires-2
push_copies-requires-2 c =
    let d : Netlist = c.args.first.now in
    let is : c.as_slice-2.result.now ≡ property_literals d.props = c.as_slice-2.ensures.value ∙ c.in_ok-properties.ensures ∙ ap property_literals c.props.ensures.value in
    let P : List ℕ → Type 0 = λ lits. All (λ lit. variable lit < copied_end c.args.sides.now.before) lits in
    subst P (sym is) (subst (λ (n : ℕ). All (λ lit. variable lit < n) (property_literals d.props)) (sym c.requires.long.of_first) (properties-within d.aig d.props c.props.ensures.netlist.props))
