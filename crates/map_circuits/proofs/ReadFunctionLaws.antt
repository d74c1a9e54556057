-- The functions of latches' readings are those of the latches, if the constraints of a merging
-- hold.
use Rattle.std.proofs.Common.{ℕ, ◌<◌, ◌≡◌, Bool, false, List, length, map, get_or, arith, ap, sym, ◌∙◌, subst}
use Rattle.std.proofs.lemmas.List.{ext_get_or, get_or-map, length-map}
use Rattle.aig_graph.specs.Circuits.{AreLiteralsOf, Netlist}
use Rattle.aig_graph.specs.Graph.{Graph, IsGraph, IsLiteralOf, first_latch}
use Rattle.aig_graph.specs.Value.{value_within}
use Rattle.merged_circuits.specs.Readings.{IsReading}
use Rattle.state_maps.specs.States.{IsStateMap, SameReads, State, after_step, opening_state}
use Rattle.map_circuits.specs.Constraining.{AddsSubstitutes, AreOne, substitute_function}
use Rattle.map_circuits.specs.Following.{state_of}
use Rattle.map_circuits.proofs.ConstrainingLaws.{substitute-within}
use Rattle.map_circuits.specs.Steps.{MergedStep, read_functions}
use Rattle.map_circuits.proofs.MergeStepLaws.{merging-step}
use Rattle.map_circuits.proofs.ReadsSubstituteLaws.{all-substitutes}

module _ (d : Graph) (held reads functions : List ℕ) (reading : IsReading d held reads) (many : length functions ≡ length d.latches)
    (g h : Graph) (old new : List ℕ) (graph : IsGraph g) (all : AreLiteralsOf g functions) (adds : AddsSubstitutes g (first_latch d) functions reads (length reads) h old new) where
  abbrev function : ℕ → ℕ
  function = substitute_function (first_latch d) functions

  abbrev read : List ℕ
  read = read_functions (first_latch d) functions reads

  each-within : (j : ℕ) → j < length reads → IsLiteralOf g (function (get_or reads j 0))
  each-within j less = substitute-within g (first_latch d) functions (get_or reads j 0) graph all (all-substitutes d held reads functions reading many j 0 less)

  -- the functions of what the latches read as are literals
  pub read-within : AreLiteralsOf h read
  read-within k a less =
      let below : k < length reads = omega (arith, less, length-map reads function) in
      subst (λ (lit : ℕ). IsLiteralOf h lit) (sym (get_or-map function reads k 0 a below)) (adds.extends.literals (function (get_or reads k 0)) (each-within k below))

  module _ (s : State) (ones : AreOne h new s) where
    abbrev there : ℕ → Bool
    there = value_within h s (λ i. false)

    read-same : (j : ℕ) → j < length reads → there (function (get_or reads j 0)) ≡ there (get_or functions j 0)
    read-same j less =
        let own : IsLiteralOf g (get_or functions j 0) = all j 0 (omega (arith, less, many, reading.long)) in
        adds.extends.values s (λ i. false) (function (get_or reads j 0)) (each-within j less)
        ∙ sym (((adds.says s).0 ones).1 j less) ∙ sym (adds.extends.values s (λ i. false) (get_or functions j 0) own)

    -- if the constraints hold they have the values of the functions of the latches
    pub read-state : state_of h read s ≡ state_of h functions s
    read-state =
        let one : length (map there read) ≡ length reads = length-map read there ∙ length-map reads function in
        let two : length (map there functions) ≡ length reads = length-map functions there ∙ many ∙ sym reading.long in
        let same : map there read ≡ map there functions = ext_get_or false (map there read) (map there functions) (one ∙ sym two) (λ j h.
        let less : j < length reads = omega (arith, h, one) in
        get_or-map there read j 0 false (omega (arith, less, length-map reads function)) ∙ ap there (get_or-map function reads j 0 0 less)
        ∙ read-same j less ∙ sym (get_or-map there functions j 0 false (omega (arith, less, two, length-map functions there)))) in
        ap (λ (bits : List Bool). λ (j : ℕ). get_or bits j false) same

-- what gives the states of a map wherever that is one is a map
same-states : (c d : Netlist) (kept : List ℕ) (holds : State → Type 0) (to on : State → State) → ((s : State) → holds s → on s ≡ to s) → IsStateMap c d kept holds to → IsStateMap c d kept holds on
same-states c d kept holds to on same p = record {
  holds_first = p.holds_first;
  first = λ f. same (opening_state c.aig f) (p.holds_first f) ∙ p.first f;
  keeps = p.keeps;
  steps = λ x s here. same (after_step c.aig x s) (p.keeps x s here) ∙ p.steps x s here ∙ ap (after_step d.aig x) (sym (same s here));
  reads = λ x s here. subst (λ (t : State). SameReads c d x s t) (sym (same s here)) (p.reads x s here);
}

-- A map to a circuit, with the constraints of a merging, is one to what the circuit is merged to.
-- Each latch has the function of its reading.
pub merged-step : (c d e : Netlist) (held reads kept : List ℕ) (g h : Graph) (functions old new : List ℕ) → MergedStep c d e held reads kept g h functions old new
merged-step c d e held reads kept g h functions old new valid netlist merged graph all many free p adds =
    same-states c e kept (AreOne h new) (state_of h functions) (state_of h (read_functions (first_latch d.aig) functions reads))
    (λ s ones. read-state d.aig held reads functions merged.inductive.reading many g h old new graph all adds s ones)
    (merging-step c d e held reads kept g h functions old new valid netlist merged graph all many free p adds)
