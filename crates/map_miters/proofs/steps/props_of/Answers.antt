use Rattle.std.proofs.Common.{ℕ, ◌≡◌, ◌∙◌, IfOk, List, ap, map, subst}
use Rattle.aig_graph.specs.declared.properties.Props.{Props}
use Rattle.aig_graph.specs.Circuits.{Netlist}
use Rattle.aig_graph.specs.Streams.{property_literals}
use Rattle.map_circuits.specs.Instances.{substitute}
use Rattle.map_miters.proofs.HoldingLaws.{below-end}
use Rattle.aig_graph.proofs.PropsLaws.{properties-within}
use Rattle.map_miters.proofs.steps.props_of.Goals as goal

pub substitutes_of-requires : goal.substitutes_of-requires
substitutes_of-requires c =
    let n : Netlist = c.args.circuit.now in
    below-end n.aig c.as_slice.result.now (property_literals n.props) _ (c.as_slice.ensures.value ∙ c.in_ok-literals.ensures ∙ ap (λ (p : Props). property_literals p) c.props.ensures.value)
    (properties-within n c.known.ensures.netlist) c.requires

pub returns : goal.returns
returns c =
    let n : Netlist = c.args.circuit.now in
    subst (λ (ls : List ℕ). IfOk c.substitutes_of.result (λ found. found.items ≡ map (substitute c.args.part.now) ls))
    (c.as_slice.ensures.value ∙ c.in_ok-literals.ensures ∙ ap (λ (p : Props). property_literals p) c.props.ensures.value) c.substitutes_of.ensures
