use Rattle.std.proofs.Common.{ℕ, ◌≡◌, ◌<◌, ◌∙◌, List, arith, ap, length, map, sym, subst}
use Rattle.std.specs.List.{All}
use Rattle.aig_graph.specs.declared.graph.Latch.{Latch}
use Rattle.aig_graph.specs.Circuits.{Netlist}
use Rattle.aig_graph.specs.Graph.{Graph, variable, variables_end}
use Rattle.aig_graph.specs.Value.{value_within}
use Rattle.aig_graph.proofs.GraphLaws.{all_from_slice_get}
use Rattle.map_circuits.specs.Instances.{substitute}
use Rattle.witness_circuits.specs.Parts.{IsView}
use Rattle.map_miters.proofs.HoldingLaws.{step-is}
use Rattle.aig_graph.proofs.PropsLaws.{properties-within}
use Rattle.map_miters.proofs.steps.add_step.Goals as goal

pub add_over-requires-clause-wide : goal.add_over-requires-clause-wide
add_over-requires-clause-wide c = c.requires.wide ∙ sym (ap (λ (g : Graph). g.inputs) c.aig.ensures.value)

pub add_over-requires-clause-long : goal.add_over-requires-clause-long
add_over-requires-clause-long c = c.requires.long ∙ sym (ap (λ (g : Graph). length g.latches) c.aig.ensures.value)

pub nexts_of-requires : goal.nexts_of-requires
nexts_of-requires c =
    let n : Netlist = c.args.circuit.now in
    let part : List ℕ = c.in_ok-part.part in
    let long : length part ≡ variables_end n.aig = c.in_ok-part.ensures.many ∙ ap (λ (g : Graph). variables_end g) c.aig.ensures.value in
    let same : c.latches.result.now ≡ n.aig.latches = c.latches.ensures.value ∙ ap (λ (g : Graph). g.latches) c.aig-2.ensures.value in
    subst (λ (ls : List Latch). All (λ (l : Latch). variable l.next < length part) ls) (sym same)
    (all_from_slice_get (λ (l : Latch). variable l.next < length part) n.aig.latches (λ k latch there. omega (arith, c.known.ensures.graph.latches k latch there, long)))

pub props_of-requires : goal.props_of-requires
props_of-requires c = c.in_ok-part.ensures.many ∙ ap (λ (g : Graph). variables_end g) c.aig.ensures.value

pub returns-clause-step : goal.returns-clause-step
returns-clause-step c =
    let n : Netlist = c.args.circuit.now in
    let h : Graph = c.add_over.new.gates in
    let part : List ℕ = c.in_ok-part.part in
    let same : c.latches.result.now ≡ n.aig.latches = c.latches.ensures.value ∙ ap (λ (g : Graph). g.latches) c.aig-2.ensures.value in
    λ x s of_inputs of_state.
    let view : IsView h n.aig (λ z u. value_within n.aig (x z u) (s z u)) part =
    subst (λ (a : Graph). IsView h a (λ z u. value_within a (x z u) (s z u)) part) c.aig.ensures.value (c.in_ok-part.ensures.view x s of_inputs of_state) in
    step-is h n x s part c.known.ensures.graph view (record { nexts = c.in_ok-nexts.nexts; props = c.in_ok-props.props }) (properties-within n c.known.ensures.netlist)
    (c.in_ok-nexts.ensures ∙ ap (λ (ls : List Latch). map (λ (l : Latch). substitute part l.next) ls) same) c.in_ok-props.ensures

pub add_over-requires-clause-graph : goal.add_over-requires-clause-graph
add_over-requires-clause-graph c = c.requires.graph

pub add_over-requires-clause-inputs : goal.add_over-requires-clause-inputs
add_over-requires-clause-inputs c = c.requires.inputs

pub add_over-requires-clause-latches : goal.add_over-requires-clause-latches
add_over-requires-clause-latches c = c.requires.state

pub returns-clause-extends : goal.returns-clause-extends
returns-clause-extends c = c.in_ok-part.ensures.extends
