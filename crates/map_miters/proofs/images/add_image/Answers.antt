use Rattle.map_circuits.proofs.GrowingLaws.{extends-transitive}
use Rattle.aig_graph.specs.declared.graph.Latch.{Latch}
use Rattle.std.proofs.Common.{[], refl, ℕ, ◌≡◌, ◌∙◌, List, false, ap, get_or, map, sym, subst, arith, length}
use Rattle.aig_graph.specs.declared.properties.Props.{Props}
use Rattle.aig_graph.specs.Circuits.{AreLiteralsOf, Netlist}
use Rattle.aig_graph.specs.Graph.{Graph, variables_end}
use Rattle.aig_graph.specs.Value.{value_within}
use Rattle.map_circuits.specs.Instances.{AreAll, substitute}
use Rattle.witness_circuits.specs.Parts.{IsView}
use Rattle.witness_circuits.proofs.PropertyLaws.{substitutes-within}
use Rattle.map_miters.specs.Holding.{Held}
use Rattle.map_miters.proofs.HoldingLaws.{below-end, holds-itself, holds-none, image-is}
use Rattle.map_miters.proofs.images.add_image.Goals as goal

pub add_over-requires-clause-wide : goal.add_over-requires-clause-wide
add_over-requires-clause-wide c = c.requires.wide ∙ sym (ap (λ (g : Graph). g.inputs) c.aig.ensures.value)

pub substitutes_of-requires : goal.substitutes_of-requires
substitutes_of-requires c =
    let m : Netlist = c.args.map.now in
    below-end m.aig c.as_slice.result.now m.props.outputs _ (c.as_slice.ensures ∙ ap (λ (p : Props). p.outputs) c.props.ensures.value) c.known.ensures.netlist.props.outputs
    (c.in_ok-part.ensures.many ∙ ap (λ (g : Graph). variables_end g) c.aig.ensures.value)

pub substitutes_of-requires-2 : goal.substitutes_of-requires-2
substitutes_of-requires-2 c =
    let m : Netlist = c.args.map.now in
    below-end m.aig c.as_slice-2.result.now m.props.constraints _ (c.as_slice-2.ensures ∙ ap (λ (p : Props). p.constraints) c.props-2.ensures.value) c.known.ensures.netlist.props.constraints
    (c.in_ok-part.ensures.many ∙ ap (λ (g : Graph). variables_end g) c.aig.ensures.value)

pub add_conjunction_of-requires-clause-within : goal.add_conjunction_of-requires-clause-within
add_conjunction_of-requires-clause-within c =
    let m : Netlist = c.args.map.now in
    let g0 : Graph = c.args.gates.now in
    let g : Graph = c.add_over.new.gates in
    let part : List ℕ = c.in_ok-part.part in
    let s : Held = λ z u. λ k. value_within g0 z u (get_or c.args.state.now k 0) in
    let view : IsView g c.aig.result.now (λ z u. value_within c.aig.result.now (s z u) (λ j. false)) part =
    c.in_ok-part.ensures.view s (λ z u. λ j. false) (holds-itself g0 c.args.state.now c.requires.state)
    (holds-none g0 [] (λ z u. λ j. false) refl) in
    let over : IsView g m.aig (λ z u. value_within m.aig (s z u) (λ j. false)) part =
    subst (λ (a : Graph). IsView g a (λ z u. value_within a (s z u) (λ j. false)) part) c.aig.ensures.value view in
    let lits : c.as_slice-3.result.now ≡ map (substitute part) m.props.constraints =
    c.as_slice-3.ensures.value ∙ c.in_ok-constraints.ensures ∙ ap (λ (ls : List ℕ). map (substitute part) ls) (c.as_slice-2.ensures ∙ ap (λ (p : Props). p.constraints) c.props-2.ensures.value) in
    subst (λ (ls : List ℕ). AreLiteralsOf g ls) (sym lits) (substitutes-within g m.aig (λ z u. value_within m.aig (s z u) (λ j. false)) part over m.props.constraints c.known.ensures.netlist.props.constraints)

pub returns-clause-image : goal.returns-clause-image
returns-clause-image c =
    let m : Netlist = c.args.map.now in
    let g0 : Graph = c.args.gates.now in
    let g : Graph = c.add_over.new.gates in
    let h : Graph = c.add_conjunction_of.new.gates in
    let part : List ℕ = c.in_ok-part.part in
    let outputs : c.in_ok-outputs.outputs.items ≡ map (substitute part) m.props.outputs =
    c.in_ok-outputs.ensures ∙ ap (λ (ls : List ℕ). map (substitute part) ls) (c.as_slice.ensures ∙ ap (λ (p : Props). p.outputs) c.props.ensures.value) in
    let lits : c.as_slice-3.result.now ≡ map (substitute part) m.props.constraints =
    c.as_slice-3.ensures.value ∙ c.in_ok-constraints.ensures ∙ ap (λ (ls : List ℕ). map (substitute part) ls) (c.as_slice-2.ensures ∙ ap (λ (p : Props). p.constraints) c.props-2.ensures.value) in
    λ s held.
    let view : IsView g c.aig.result.now (λ z u. value_within c.aig.result.now (s z u) (λ j. false)) part =
    c.in_ok-part.ensures.view s (λ z u. λ j. false) held (holds-none g0 [] (λ z u. λ j. false) refl) in
    let over : IsView g m.aig (λ z u. value_within m.aig (s z u) (λ j. false)) part =
    subst (λ (a : Graph). IsView g a (λ z u. value_within a (s z u) (λ j. false)) part) c.aig.ensures.value view in
    image-is g h m s part (record { kept = c.in_ok-kept.kept; outputs = c.in_ok-outputs.outputs }) c.known.ensures.netlist c.in_ok-kept.ensures.extends over outputs
    (subst (λ (ls : List ℕ). AreAll h ls c.in_ok-kept.kept) lits c.in_ok-kept.ensures.all)

pub add_over-requires-clause-graph : goal.add_over-requires-clause-graph
add_over-requires-clause-graph c = c.requires.graph

pub add_over-requires-clause-inputs : goal.add_over-requires-clause-inputs
add_over-requires-clause-inputs c = c.requires.state

pub add_over-requires-clause-long : goal.add_over-requires-clause-long
add_over-requires-clause-long c =
    sym (ap (λ (ls : List Latch). length ls) (ap (λ (g : Graph). g.latches) c.aig.ensures.value ∙ c.requires.latches))

pub add_over-requires-clause-latches : goal.add_over-requires-clause-latches
add_over-requires-clause-latches c = λ k d less. absurd (omega (arith, less))

pub add_conjunction_of-requires-clause-graph : goal.add_conjunction_of-requires-clause-graph
add_conjunction_of-requires-clause-graph c = c.in_ok-part.ensures.extends.graph

pub returns-clause-extends : goal.returns-clause-extends
returns-clause-extends c = extends-transitive c.args.gates.now c.add_over.new.gates c.add_conjunction_of.new.gates c.in_ok-part.ensures.extends c.in_ok-kept.ensures.extends
