-- What a trimmed circuit reaches has at most the level that it had.
use Rattle.std.proofs.Common.{ℕ, ◌+◌, ◌-◌, ◌<◌, ◌≤◌, ◌≡◌, inl, inr, suc, zero, List, Bool, true, Some, slice_get, get_or, arith, ap, sym, ◌∙◌, subst}
use Rattle.std.specs.List.{All}
use Rattle.std.proofs.lemmas.Bool.{cases_lt}
use Rattle.std.proofs.lemmas.List.Elements.{All-map}
use Rattle.aig_graph.specs.declared.graph.Gate.{Gate}
use Rattle.aig_graph.specs.declared.graph.Latch.{Latch}
use Rattle.aig_graph.specs.Graph.{IsGraph, IsGateAt, variable, first_gate, variables_end, gate_at}
use Rattle.aig_graph.specs.Circuits.{Netlist, IsNetlist}
use Rattle.aig_graph.specs.Streams.{property_literals}
use Rattle.aig_graph.proofs.FoldingLaws.{gate_at-before, gate_at-first_gate}
use Rattle.aig_graph.proofs.KindLaws.{element}
use Rattle.aig_graph.proofs.PropsLaws.{mapped-literals, literals_within}
use Rattle.cleaned_circuits.specs.Reached.{stays, HoldsReads}
use Rattle.cleaned_circuits.specs.Trimmed.{new_variable, renumbered, renumbered_gate, trimmed_graph, trimmed_of}
use Rattle.cleaned_circuits.proofs.TrimmedLaws.{stays-past, new-rises, new-less, trimmed-first_gate, gate_in, latch_from, renumbered-variable, next-reached, fan_ins-reached, IsGraph-trimmed}
use Rattle.path_levels.specs.Levels.{level, levels}
use Rattle.path_levels.proofs.LevelLaws.{level-no_gate, level-gate}
use Rattle.retimed_circuits.proofs.GateLevelLaws.{gate_level-gate_of}
use Rattle.retimed_circuits.proofs.HighestLaws.{IsReadWithin, read-within_levels, levels-most}

module _ (c : Netlist) (held : List ℕ) (s : ℕ → Bool) (valid : IsGraph c.aig) (holds : HoldsReads c.aig c.props held s) where
  -- the level of a variable before, and that of its new one after
  abbrev before : ℕ → ℕ
  before v = level c.aig v

  abbrev after : ℕ → ℕ
  after v = level (trimmed_graph c.aig s) (new_variable c.aig s v)

  renumbered-after : (lit : ℕ) → level (trimmed_graph c.aig s) (variable (renumbered c.aig s lit)) ≡ after (variable lit)
  renumbered-after lit = ap (level (trimmed_graph c.aig s)) (renumbered-variable c.aig s lit)

  gate-low : (k : ℕ) (gate : Gate) → slice_get c.aig.gates k ≡ Some gate → s (first_gate c.aig + k) ≡ true
      → after (variable gate.rhs0) ≤ before (variable gate.rhs0) → after (variable gate.rhs1) ≤ before (variable gate.rhs1)
      → after (first_gate c.aig + k) ≤ before (first_gate c.aig + k)
  gate-low k gate there reached first second =
      let m : ℕ = new_variable c.aig s (first_gate c.aig + k) - first_gate (trimmed_graph c.aig s) in
      let low : new_variable c.aig s (first_gate c.aig) ≤ new_variable c.aig s (first_gate c.aig + k) = new-rises c.aig s (first_gate c.aig) (first_gate c.aig + k) (omega arith) in
      let rank : first_gate (trimmed_graph c.aig s) + m ≡ new_variable c.aig s (first_gate c.aig + k) = omega (arith, trimmed-first_gate c.aig s) in
      let at : gate_at (trimmed_graph c.aig s) (new_variable c.aig s (first_gate c.aig + k)) ≡ Some (renumbered_gate c.aig s gate) =
      ap (gate_at (trimmed_graph c.aig s)) (sym rank) ∙ gate_at-first_gate (trimmed_graph c.aig s) m ∙ gate_in c.aig s k m gate there reached rank in
      omega (
        arith,
        level-gate (trimmed_graph c.aig s) (IsGraph-trimmed c held s valid holds) (new_variable c.aig s (first_gate c.aig + k)) (renumbered_gate c.aig s gate) at,
        gate_level-gate_of (level (trimmed_graph c.aig s)) (renumbered c.aig s gate.rhs0) (renumbered c.aig s gate.rhs1),
        renumbered-after gate.rhs0,
        renumbered-after gate.rhs1,
        level-gate c.aig valid (first_gate c.aig + k) gate (gate_at-first_gate c.aig k ∙ there),
      )

  variable-low : (n v : ℕ) → v < n → v < variables_end c.aig → stays c.aig s v ≡ true → after v ≤ before v
  variable-low zero v h within reached = absurd (omega arith)
  variable-low (suc n) v h within reached = elim (cases_lt v (first_gate c.aig)) [
    | inl low ↦ (
        let still : new_variable c.aig s v < first_gate (trimmed_graph c.aig s) = omega (arith, new-less c.aig s v (first_gate c.aig) reached low, trimmed-first_gate c.aig s) in
        let none : after v ≡ 0 = level-no_gate (trimmed_graph c.aig s) (new_variable c.aig s v) (gate_at-before (trimmed_graph c.aig s) (new_variable c.aig s v) still) in
        omega (arith, none))
    | inr past ↦ (
        let k : ℕ = v - first_gate c.aig in
        let there = element c.aig.gates k (omega arith) in
        let place : first_gate c.aig + k ≡ v = omega arith in
        let at : IsGateAt (first_gate c.aig + k) there.0 = valid.gates k there.0 there.1 in
        let here : s (first_gate c.aig + k) ≡ true = ap s place ∙ sym (stays-past c.aig s v (omega arith)) ∙ reached in
        let ins = fan_ins-reached c held s valid holds k there.0 there.1 here in
        subst (λ (w : ℕ). after w ≤ before w) place
        (gate-low k there.0 there.1 here
        (variable-low n (variable there.0.rhs0) (omega arith) (omega arith) ins.0)
        (variable-low n (variable there.0.rhs1) (omega arith) (omega arith) ins.1)))
  ]

  literal-low : (lit : ℕ) → variable lit < variables_end c.aig → stays c.aig s (variable lit) ≡ true
      → level (trimmed_graph c.aig s) (variable (renumbered c.aig s lit)) ≤ before (variable lit)
  literal-low lit within reached = omega (arith, renumbered-after lit, variable-low (suc (variable lit)) (variable lit) (omega arith) within reached)

  -- trimmed to a set that holds what it reads, a circuit is no deeper
  pub trimmed-levels : IsNetlist c → levels (trimmed_of c s) ≤ levels c
  trimmed-levels netlist =
      let read : IsReadWithin (levels c) c = read-within_levels c in
      let P : ℕ → Type 0 = λ lit. level (trimmed_graph c.aig s) (variable lit) ≤ levels c in
      levels-most (levels c) (trimmed_of c s) (record {
        next = λ m latch there.
            let from = latch_from c.aig s m latch there in
            let bound : P (renumbered c.aig s from.old.next) = omega (
              arith,
              literal-low from.old.next (valid.latches from.place from.old from.there) (next-reached c held s valid holds from.place from.old from.there from.reached),
              read.next from.place from.old from.there,
            ) in
            subst (λ (l : Latch). P l.next) (sym from.is) bound;
        properties = subst (All P) (sym (mapped-literals (renumbered c.aig s) c.props))
            (All-map P (renumbered c.aig s) (property_literals c.props) (λ k d h.
            omega (arith, literal-low (get_or (property_literals c.props) k d) (literals_within c.aig c.props netlist.props k d h) (holds.properties k d h), read.properties k d h)));
      })
