use Rattle.std.proofs.Common.{ℕ, ◌≡◌, ◌+◌, ◌∙◌, [], List, arith, ap, sym, subst, length, slice_get, get_or, map}
use Rattle.std.proofs.lemmas.List.{get_or_default}
use Rattle.aig_graph.specs.declared.graph.Gate.{Gate}
use Rattle.aig_graph.specs.declared.graph.Latch.{Latch}
use Rattle.aig_graph.specs.Graph.{Graph, IsGraph, IsGateAt, IsLiteralOf, first_gate}
use Rattle.aig_graph.specs.Tables.{table}
use Rattle.aig_graph.proofs.TableLaws.{length-table}
use Rattle.cleaned_circuits.specs.Latches.{leaf_substitute}
use Rattle.cleaned_circuits.specs.Merged.{merge_gates, replaced_gate, replaced_graph, replaced_latch, substitutes_of}
use Rattle.cleaned_circuits.proofs.MergedLaws.{IsGraph-merged}
use Rattle.clean.proofs.MappingLaws.{latch-there, replaced-is, substitutes-long}
use Rattle.clean.proofs.substitutes.merged_over.Goals as goal

pub merged_gates-requires-clause-first : goal.merged_gates-requires-clause-first
merged_gates-requires-clause-first c =
    let g : Graph = c.args.aig in
    omega (arith, c.first_latch-first.ensures.value, ap (λ (xs : List ℕ). length xs) c.requires.leaves, length-table 0 (first_gate g) (leaf_substitute g c.args.held.now))

pub merged_gates-requires-clause-few : goal.merged_gates-requires-clause-few
merged_gates-requires-clause-few c =
    let g : Graph = c.args.aig in
    omega (
      arith,
      c.first_latch-first.ensures.graph.small,
      ap (λ (xs : List ℕ). length xs) c.requires.leaves,
      length-table 0 (first_gate g) (leaf_substitute g c.args.held.now),
      ap (λ (xs : List Gate). length xs) c.into_parts-inputs.ensures.gates,
    )

pub merged_gates-requires-clause-graph : goal.merged_gates-requires-clause-graph
merged_gates-requires-clause-graph c k gate there =
    let g : Graph = c.args.aig in
    let long : length c.args.tables.now.literals ≡ first_gate g = ap (λ (xs : List ℕ). length xs) c.requires.leaves ∙ length-table 0 (first_gate g) (leaf_substitute g c.args.held.now) in
    subst (λ (v : ℕ). IsGateAt (v + k) gate) (sym long)
    (c.first_latch-first.ensures.graph.gates k gate (ap (λ (xs : List Gate). slice_get xs k) (sym c.into_parts-inputs.ensures.gates) ∙ there))

is-table : (g : Graph) (held xs : List ℕ) → xs ≡ (merge_gates g.gates (record { substitutes = table 0 (first_gate g) (leaf_substitute g held); kept = [] })).substitutes → xs ≡ substitutes_of g held
unfolding substitutes_of
is-table g held xs e = e

-- the graph in which substitutes are read, by its parts
is-merged : (g : Graph) (held s : List ℕ) (n : ℕ) (latches : List Latch) (gates : List Gate)
    → s ≡ (merge_gates g.gates (record { substitutes = table 0 (first_gate g) (leaf_substitute g held); kept = [] })).substitutes
    → n ≡ g.inputs → latches ≡ map (replaced_latch s) g.latches → gates ≡ map (replaced_gate s) g.gates
    → ◌≡◌ {A = Graph} (record { inputs = n; latches = latches; gates = gates }) (replaced_graph (substitutes_of g held) g)
is-merged g held s n latches gates e one two three =
    replaced-is s g n latches gates one two three ∙ ap (λ (xs : List ℕ). replaced_graph xs g) (is-table g held s e)

pub replaced_latches-requires : goal.replaced_latches-requires
replaced_latches-requires c = λ k d h.
    let g : Graph = c.args.aig in
    let items : List Latch = c.as_slice.result.now in
    let same : items ≡ g.latches = c.as_slice.ensures.value ∙ c.into_parts-inputs.ensures.latches in
    let there = latch-there g items k (get_or items k d) same h (get_or_default items k d (get_or items k d) h) in
    let within : IsLiteralOf g (get_or items k d).next = c.first_latch-first.ensures.graph.latches k (get_or items k d) there in
    let table_is = c.in_ok-gates.ensures.substitutes ∙ ap (λ (gs : List Gate). (merge_gates gs (record { substitutes = c.args.tables.now.literals; kept = [] })).substitutes) c.into_parts-inputs.ensures.gates
    ∙ ap (λ (xs : List ℕ). (merge_gates g.gates (record { substitutes = xs; kept = [] })).substitutes) c.requires.leaves in
    omega (arith, within, substitutes-long g c.args.held.now c.merged_gates.new.substitutes (is-table g c.args.held.now c.merged_gates.new.substitutes table_is))

pub from_parts-requires : goal.from_parts-requires
from_parts-requires c =
    let g : Graph = c.args.aig in
    let held : List ℕ = c.args.held.now in
    let s : List ℕ = c.merged_gates.new.substitutes in
    let table_is = c.in_ok-gates.ensures.substitutes ∙ ap (λ (gs : List Gate). (merge_gates gs (record { substitutes = c.args.tables.now.literals; kept = [] })).substitutes) c.into_parts-inputs.ensures.gates
    ∙ ap (λ (xs : List ℕ). (merge_gates g.gates (record { substitutes = xs; kept = [] })).substitutes) c.requires.leaves in
    let same = is-merged g held s c.into_parts-inputs.result.0 c.in_ok-latches.latches.items c.in_ok-gates.gates.items table_is c.into_parts-inputs.ensures.inputs
    (c.in_ok-latches.ensures ∙ ap (map (replaced_latch s)) (c.as_slice.ensures.value ∙ c.into_parts-inputs.ensures.latches))
    (c.in_ok-gates.ensures.gates ∙ ap (map (replaced_gate s)) c.into_parts-inputs.ensures.gates) in
    subst (λ (h : Graph). IsGraph h) (sym same) (IsGraph-merged g held c.first_latch-first.ensures.graph)

pub returns-clause-substitutes : goal.returns-clause-substitutes
returns-clause-substitutes c =
    let g : Graph = c.args.aig in
    let table_is = c.in_ok-gates.ensures.substitutes ∙ ap (λ (gs : List Gate). (merge_gates gs (record { substitutes = c.args.tables.now.literals; kept = [] })).substitutes) c.into_parts-inputs.ensures.gates
    ∙ ap (λ (xs : List ℕ). (merge_gates g.gates (record { substitutes = xs; kept = [] })).substitutes) c.requires.leaves in
    is-table g c.args.held.now c.merged_gates.new.substitutes table_is

pub returns-clause-graph : goal.returns-clause-graph
returns-clause-graph c =
    let g : Graph = c.args.aig in
    let held : List ℕ = c.args.held.now in
    let s : List ℕ = c.merged_gates.new.substitutes in
    let table_is = c.in_ok-gates.ensures.substitutes ∙ ap (λ (gs : List Gate). (merge_gates gs (record { substitutes = c.args.tables.now.literals; kept = [] })).substitutes) c.into_parts-inputs.ensures.gates
    ∙ ap (λ (xs : List ℕ). (merge_gates g.gates (record { substitutes = xs; kept = [] })).substitutes) c.requires.leaves in
    let same = is-merged g held s c.into_parts-inputs.result.0 c.in_ok-latches.latches.items c.in_ok-gates.gates.items table_is c.into_parts-inputs.ensures.inputs
    (c.in_ok-latches.ensures ∙ ap (map (replaced_latch s)) (c.as_slice.ensures.value ∙ c.into_parts-inputs.ensures.latches))
    (c.in_ok-gates.ensures.gates ∙ ap (map (replaced_gate s)) c.into_parts-inputs.ensures.gates) in
    c.from_parts.ensures ∙ same
