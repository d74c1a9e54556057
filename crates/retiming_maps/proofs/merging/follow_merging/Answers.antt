use Rattle.std.proofs.Common.{ℕ, List, ◌≡◌, ◌∙◌, ap, length, subst, sym}
use Rattle.aig_graph.specs.Circuits.{AreLiteralsOf, Netlist}
use Rattle.aig_graph.specs.Graph.{Graph, first_latch}
use Rattle.map_circuits.specs.Constraining.{AddsSubstitutes}
use Rattle.map_circuits.specs.Steps.{IsSomeReading, read_functions}
use Rattle.retiming_maps.specs.Mapping.{IsMapBy}
use Rattle.retiming_maps.proofs.MergingLaws.{merged-map}
use Rattle.retiming_maps.proofs.merging.follow_merging.Goals as goal

pub add_readings-requires-clause-graph : goal.add_readings-requires-clause-graph
add_readings-requires-clause-graph c = c.requires.map.2.graph

pub add_readings-requires-clause-constraints : goal.add_readings-requires-clause-constraints
add_readings-requires-clause-constraints c = c.requires.map.2.constraints_within

pub add_readings-requires-clause-functions : goal.add_readings-requires-clause-functions
add_readings-requires-clause-functions c =
    subst (λ (lits : List ℕ). AreLiteralsOf c.args.parts.now.gates lits) (sym c.as_slice-functions.ensures) c.requires.map.2.functions_within

pub add_readings-requires-clause-many : goal.add_readings-requires-clause-many
add_readings-requires-clause-many c =
    ap (λ (xs : List ℕ). length xs) c.as_slice-functions.ensures ∙ c.requires.map.2.many ∙ sym (ap (λ (g : Graph). length g.latches) c.aig-aig.ensures.value)

pub add_readings-requires-clause-reading : goal.add_readings-requires-clause-reading
add_readings-requires-clause-reading c =
    subst (λ (g : Graph). IsSomeReading g c.args.reads.now) (sym c.aig-aig.ensures.value) (c.args.keep.now, c.requires.inductive.reading)

pub read_functions-requires-clause-many : goal.read_functions-requires-clause-many
read_functions-requires-clause-many c =
    ap (λ (xs : List ℕ). length xs) c.as_slice-functions.ensures ∙ c.requires.map.2.many ∙ sym (ap (λ (g : Graph). length g.latches) c.aig-aig.ensures.value)

pub read_functions-requires-clause-reading : goal.read_functions-requires-clause-reading
read_functions-requires-clause-reading c =
    subst (λ (g : Graph). IsSomeReading g c.args.reads.now) (sym c.aig-aig.ensures.value) (c.args.keep.now, c.requires.inductive.reading)

pub returns : goal.returns
returns c =
    let d : Netlist = c.args.circuit.now in
    let g : Graph = c.args.parts.now.gates in
    let h : Graph = c.add_readings.new.gates in
    let reads : List ℕ = c.args.reads.now in
    let old : List ℕ = c.args.parts.now.constraints.items in
    let new : List ℕ = c.add_readings.new.constraints.items in
    let functions : List ℕ = c.args.parts.now.functions in
    let slice : c.as_slice-functions.result.now ≡ functions = c.as_slice-functions.ensures in
    let graph : c.aig-aig.result.now ≡ d.aig = c.aig-aig.ensures.value in
    let P : Graph → List ℕ → Type 0 = λ x lits. AddsSubstitutes g (first_latch x) lits reads (length reads) h old new in
    let adds : P d.aig functions = subst (P d.aig) slice (subst (λ (x : Graph). P x c.as_slice-functions.result.now) graph c.in_ok-add_readings.ensures) in
    let same : c.of.result ≡ read_functions (first_latch d.aig) functions reads =
    c.of.ensures ∙ c.in_ok-new.ensures ∙ ap (λ (x : Graph). read_functions (first_latch x) c.as_slice-functions.result.now reads) graph ∙ ap (λ (lits : List ℕ). read_functions (first_latch d.aig) lits reads) slice in
    λ e merged b kept p.
    subst (λ (lits : List ℕ). IsMapBy b e kept h lits new) (sym same)
    (merged-map b d e c.args.keep.now kept reads g h functions old new (record { graph = c.known.ensures.graph; netlist = c.known.ensures.netlist }) merged p adds)
