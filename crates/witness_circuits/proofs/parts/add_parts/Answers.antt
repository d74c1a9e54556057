use Rattle.std.proofs.Common.{ℕ, List, ◌≡◌, ◌∙◌, arith, ap, sym, subst, length}
use Rattle.std.proofs.lemmas.List.{length-map}
use Rattle.aig_graph.specs.declared.graph.Latch.{Latch}
use Rattle.aig_graph.specs.Circuits.{AreLiteralsOf, Netlist}
use Rattle.aig_graph.specs.Graph.{Graph, variables_end}
use Rattle.aig_graph.specs.Value.{value_within}
use Rattle.map_circuits.specs.Instances.{substitute}
use Rattle.map_circuits.proofs.GrowingLaws.{extends-transitive}
use Rattle.witness_circuits.specs.declared.sharing.Sharing.{Sharing}
use Rattle.witness_circuits.specs.declared.parts.Parts.{Parts}
use Rattle.witness_circuits.specs.Parts.{HasPlaces, IsFitting, IsView, in_shared, over_latches}
use Rattle.witness_circuits.proofs.PartLaws.{all-parts, places-stay}
use Rattle.witness_circuits.proofs.PropertyLaws.{substitutes-within}
use Rattle.witness_circuits.proofs.parts.add_parts.Goals as goal

pub add_first-requires-clause-inputs : goal.add_first-requires-clause-inputs
add_first-requires-clause-inputs c = omega (arith, ap (λ (g : Graph). g.inputs) c.aig-circuit.ensures.value, c.requires.places.inputs)

pub add_first-requires-clause-latches : goal.add_first-requires-clause-latches
add_first-requires-clause-latches c = omega (arith, ap (λ (g : Graph). length g.latches) c.aig-circuit.ensures.value, c.requires.places.latches)

pub add_map-requires-clause-at : goal.add_map-requires-clause-at
add_map-requires-clause-at c = omega (arith, c.requires.at, c.in_ok-of_first.ensures.extends.inputs)

pub add_map-requires-clause-inputs : goal.add_map-requires-clause-inputs
add_map-requires-clause-inputs c =
    omega (arith, ap (λ (g : Graph). g.inputs) c.aig.ensures.value, c.requires.fits.map_inputs, ap (λ (ls : List Latch). length ls) c.in_ok-of_first.ensures.extends.latches, c.requires.places.latches)

pub add_map-requires-clause-latches : goal.add_map-requires-clause-latches
add_map-requires-clause-latches c = ap (λ (g : Graph). g.latches) c.aig.ensures.value ∙ c.requires.fits.map_latches

pub outputs_of-requires : goal.outputs_of-requires
outputs_of-requires c = c.in_ok-of_map.ensures.view.many ∙ ap (λ (g : Graph). variables_end g) c.aig.ensures.value

pub add_witness-requires-clause-at : goal.add_witness-requires-clause-at
add_witness-requires-clause-at c = omega (arith, c.requires.at, c.in_ok-of_first.ensures.extends.inputs, c.in_ok-of_map.ensures.extends.inputs)

pub add_witness-requires-clause-places : goal.add_witness-requires-clause-places
add_witness-requires-clause-places c =
    let h0 : Graph = c.args.gates.now in
    let h1 : Graph = c.add_first.new.gates in
    let h2 : Graph = c.add_map.new.gates in
    let g : Graph = c.args.first.now.aig in
    let k : Sharing = c.args.sharing.now in
    subst (λ (a : Graph). HasPlaces h2 a k) (sym c.aig-circuit.ensures.value)
    (places-stay h0 h2 g k (extends-transitive h0 h1 h2 c.in_ok-of_first.ensures.extends c.in_ok-of_map.ensures.extends) c.requires.places)

pub add_witness-requires-clause-outputs : goal.add_witness-requires-clause-outputs
add_witness-requires-clause-outputs c =
    let h2 : Graph = c.add_map.new.gates in
    let m : Netlist = c.args.map.now in
    let view : IsView h2 m.aig (over_latches m.aig) c.in_ok-of_map.of_map = subst (λ (a : Graph). IsView h2 a (over_latches a) c.in_ok-of_map.of_map) c.aig.ensures.value c.in_ok-of_map.ensures.view in
    subst (λ (ls : List ℕ). AreLiteralsOf h2 ls) (sym (c.as_slice-lits.ensures.value ∙ c.in_ok-outputs.ensures))
    (substitutes-within h2 m.aig (over_latches m.aig) c.in_ok-of_map.of_map view m.props.outputs c.known.ensures.netlist.props.outputs)

pub add_witness-requires-clause-widths : goal.add_witness-requires-clause-widths
add_witness-requires-clause-widths c =
    let g : Graph = c.args.first.now.aig in
    let m : Netlist = c.args.map.now in
    let w : Graph = c.args.witness.now.aig in
    let k : Sharing = c.args.sharing.now in
    let many : length c.as_slice-lits.result.now ≡ length m.props.outputs =
    ap (λ (ls : List ℕ). length ls) (c.as_slice-lits.ensures.value ∙ c.in_ok-outputs.ensures) ∙ length-map m.props.outputs (substitute c.in_ok-of_map.of_map) in
    subst (λ (a : Graph). IsFitting a (length c.as_slice-lits.result.now) c.aig-2.result.now k) (sym c.aig-circuit.ensures.value)
    (subst (λ (n : ℕ). IsFitting g n c.aig-2.result.now k) (sym many) (subst (λ (a : Graph). IsFitting g (length m.props.outputs) a k) (sym c.aig-2.ensures.value) c.requires.fits.shares))

pub returns-clause-extends : goal.returns-clause-extends
returns-clause-extends c =
    let h0 : Graph = c.args.gates.now in
    let h1 : Graph = c.add_first.new.gates in
    let h2 : Graph = c.add_map.new.gates in
    let h3 : Graph = c.add_witness.new.gates in
    extends-transitive h0 h1 h3 c.in_ok-of_first.ensures.extends (extends-transitive h1 h2 h3 c.in_ok-of_map.ensures.extends c.in_ok-of_witness.ensures.extends)

pub returns-clause-parts : goal.returns-clause-parts
returns-clause-parts c =
    let h1 : Graph = c.add_first.new.gates in
    let h2 : Graph = c.add_map.new.gates in
    let h3 : Graph = c.add_witness.new.gates in
    let first : Netlist = c.args.first.now in
    let m : Netlist = c.args.map.now in
    let w : Netlist = c.args.witness.now in
    let k : Sharing = c.args.sharing.now in
    let p : Parts = record { first = c.in_ok-of_first.of_first; map = c.in_ok-of_map.of_map; witness = c.in_ok-of_witness.of_witness } in
    let lits : List ℕ = c.as_slice-lits.result.now in
    let one : IsView h1 first.aig (λ z u. value_within first.aig z u) p.first = subst (λ (a : Graph). IsView h1 a (λ z u. value_within a z u) p.first) c.aig-circuit.ensures.value c.in_ok-of_first.ensures.view in
    let two : IsView h2 m.aig (over_latches m.aig) p.map = subst (λ (a : Graph). IsView h2 a (over_latches a) p.map) c.aig.ensures.value c.in_ok-of_map.ensures.view in
    let three : IsView h3 w.aig (in_shared h2 lits first.aig w.aig k) p.witness =
    subst (λ (a : Graph). IsView h3 a (in_shared h2 lits first.aig a k) p.witness) c.aig-2.ensures.value
    (subst (λ (a : Graph). IsView h3 c.aig-2.result.now (in_shared h2 lits a c.aig-2.result.now k) p.witness) c.aig-circuit.ensures.value c.in_ok-of_witness.ensures.view) in
    all-parts h1 h2 h3 first m w k p lits c.known.ensures.netlist c.in_ok-of_map.ensures.extends c.in_ok-of_witness.ensures.extends one two (c.as_slice-lits.ensures.value ∙ c.in_ok-outputs.ensures) three

pub add_first-requires-clause-graph : goal.add_first-requires-clause-graph
add_first-requires-clause-graph c = c.requires.graph

pub add_first-requires-clause-at : goal.add_first-requires-clause-at
add_first-requires-clause-at c = c.requires.at

pub add_map-requires-clause-graph : goal.add_map-requires-clause-graph
add_map-requires-clause-graph c = c.in_ok-of_first.ensures.extends.graph

pub add_witness-requires-clause-graph : goal.add_witness-requires-clause-graph
add_witness-requires-clause-graph c = c.in_ok-of_map.ensures.extends.graph
