-- The far side of a closed set, variable by variable: what lies behind its border, or outside it.
use Rattle.std.proofs.Common.{◌≡◌, ℕ, ◌+◌, ◌<◌, ◌≤◌, ◌==◌, nat_lt, Bool, true, false, not, ◌&&◌, ◌||◌, IsTrue, List, length, Option, Some, arith, refl, ap, ap₂, sym, ◌∙◌, subst, inl, inr}
use Rattle.std.proofs.lemmas.Bool.{cases_Bool, lt-ltb, le-ltb, eqb-true, eq-eqb, or_cases, or_left, or_right, or_parts, not-true, false_from_ne_true, true≢false}
use Rattle.std.proofs.lemmas.Option.{slice_get-get_or}
use Rattle.aig_graph.specs.Marking.{has}
use Rattle.aig_graph.specs.declared.graph.Gate.{Gate}
use Rattle.aig_graph.specs.declared.graph.Latch.{Latch}
use Rattle.aig_graph.specs.Graph.{Graph, variable, first_gate, latch_at, gate_at, is_known}
use Rattle.aig_graph.specs.Circuits.{Netlist}
use Rattle.aig_graph.specs.Closed.{is_held, IsClosedSet, IsLatchOrIn}
use Rattle.aig_graph.specs.Border.{is_fan_in, is_read_outside}
use Rattle.aig_graph.proofs.FoldingLaws.{gate_at-first_gate}
use Rattle.aig_graph.proofs.KindLaws.{latch_at-gates, latch_place}
use Rattle.aig_graph.proofs.SearchLaws.{has_iff_contains}
use Rattle.frame_net.specs.Passable.{is_passable}
use Rattle.frame_net.specs.Capacity.{gate_reads, is_observed}
use Rattle.frame_net.proofs.PassableLaws.{passable-means, is_true}
use Rattle.frame_net.proofs.ReadLaws.{read-split, read-by_gate}
use Rattle.frame_net.proofs.NetLaws.{gate-range}
use Rattle.unit_flows.specs.Units.{nth_gate}

-- whether a variable is in the border of the set
unfoldable pub borders : Netlist → List ℕ → List ℕ → ℕ → Bool
borders c held r v = (is_known (latch_at c.aig v) || has r v) && (is_held c.aig held v || is_read_outside c.aig c.props (has r) v)

-- whether the node after a variable, and the one before it, lie on the far side
unfoldable pub far_after : Netlist → List ℕ → List ℕ → ℕ → Bool
far_after c held r v = not (is_known (latch_at c.aig v) || has r v) || (is_held c.aig held v || is_read_outside c.aig c.props (has r) v)

unfoldable pub far_before : Netlist → List ℕ → ℕ → Bool
far_before c r v = not (nat_lt v (first_gate c.aig) || has r v)

-- the k-th gate stands at its variable
pub nth-at : (g : Graph) (k : ℕ) → k < length g.gates → gate_at g (first_gate g + k) ≡ Some (nth_gate g k)
nth-at g k h = gate_at-first_gate g k ∙ slice_get-get_or g.gates k _ h

-- the k-th gate reads the variable of its first fan-in
pub first-read : (g : Graph) (k : ℕ) → k < length g.gates → gate_reads (variable (nth_gate g k).rhs1) (gate_at g (first_gate g + k)) ≡ true
first-read g k h = ap (λ (o : Option Gate). gate_reads (variable (nth_gate g k).rhs1) o) (nth-at g k h)
    ∙ or_right (variable (nth_gate g k).rhs0 == variable (nth_gate g k).rhs1) (variable (nth_gate g k).rhs1 == variable (nth_gate g k).rhs1) (eq-eqb _ _ refl)

-- the k-th gate reads the variable of its second fan-in
pub second-read : (g : Graph) (k : ℕ) → k < length g.gates → gate_reads (variable (nth_gate g k).rhs0) (gate_at g (first_gate g + k)) ≡ true
second-read g k h = ap (λ (o : Option Gate). gate_reads (variable (nth_gate g k).rhs0) o) (nth-at g k h)
    ∙ or_left (variable (nth_gate g k).rhs0 == variable (nth_gate g k).rhs0) (variable (nth_gate g k).rhs1 == variable (nth_gate g k).rhs0) (eq-eqb _ _ refl)

-- of a gate that isn't in the set the node before it lies on the far side
pub far-outside : (c : Netlist) (r : List ℕ) (v : ℕ) → first_gate c.aig ≤ v → far_before c r v ≡ not (has r v)
unfolding far_before
far-outside c r v h = ap (λ (b : Bool). not (b || has r v)) (le-ltb v (first_gate c.aig) h)

-- the border of a variable that isn't a member, or a member
pub border-cases : (k m o : Bool) → ((k || m) && o) ≡ true → (not (k || m) || o) ≡ true
border-cases true m o e = e
border-cases false true o e = e
border-cases false false o e = absurd (cc)

module _ (c : Netlist) (held r : List ℕ) (set : IsClosedSet c.aig held r) where
  -- each member of a closed set is passable
  pub member-passable : (v : ℕ) → has r v ≡ true → is_passable c.aig held v ≡ true
  member-passable v m = is_true (is_passable c.aig held v) ((passable-means c.aig held v).1 (set.closed.passable v ((has_iff_contains r v).0 (subst (λ (b : Bool). IsTrue b) (sym m) refl))))

  -- no variable before the first gate is in a closed set
  pub outside-gates : (v : ℕ) → v < first_gate c.aig → has r v ≡ false
  outside-gates v h = false_from_ne_true (has r v) (λ m. omega (arith, h, (gate-range c.aig held v (member-passable v m)).0))

  -- what is read from outside the passable gates lies on the far side
  pub is_observed-far : (v : ℕ) → is_observed c.aig c.props held v ≡ true → far_after c held r v ≡ true
  unfolding is_observed far_after
  is_observed-far v l = or_right (not (is_known (latch_at c.aig v) || has r v)) _ (elim (or_cases (is_held c.aig held v) (is_read_outside c.aig c.props (is_passable c.aig held) v) l) [
    | inl stays ↦ or_left (is_held c.aig held v) (is_read_outside c.aig c.props (has r) v) stays
    | inr read ↦ or_right (is_held c.aig held v) (is_read_outside c.aig c.props (has r) v) (elim (cases_Bool (is_read_outside c.aig c.props (has r) v)) [
      | inl yes' ↦ yes'
      | inr no' ↦ (
          let q = read-split c.aig c.props (is_passable c.aig held) (has r) v read no' in
          absurd (true≢false (sym (member-passable q.0 q.3) ∙ q.2)))
    ])
  ])

  -- what a gate outside the set reads lies there
  pub reads-far : (v w : ℕ) → gate_reads v (gate_at c.aig w) ≡ true → has r w ≡ false → far_after c held r v ≡ true
  unfolding far_after
  reads-far v w reads out = or_right (not (is_known (latch_at c.aig v) || has r v)) _ (or_right (is_held c.aig held v) (is_read_outside c.aig c.props (has r) v) (read-by_gate c.aig c.props (has r) v w reads out))

  -- if the node before a fan-in lies there, so does the one before the gate
  pub fan_in-far : (v w : ℕ) (gate : Gate) → gate_at c.aig w ≡ Some gate → is_fan_in v gate ≡ true → far_before c r v ≡ true → has r w ≡ false
  unfolding far_before
  fan_in-far v w gate there is_in far = false_from_ne_true (has r w) (λ member.
      let ins = set.closed.fan_ins w gate ((has_iff_contains r w).0 (subst (λ (b : Bool). IsTrue b) (sym member) refl)) there in
      elim (or_cases (variable gate.rhs0 == v) (variable gate.rhs1 == v) is_in) [
        | inl a ↦ inside (subst (λ (u : ℕ). IsLatchOrIn c.aig r u) (eqb-true (variable gate.rhs0) v a) ins.0)
        | inr b ↦ inside (subst (λ (u : ℕ). IsLatchOrIn c.aig r u) (eqb-true (variable gate.rhs1) v b) ins.1)
      ])
    where
      parts : (nat_lt v (first_gate c.aig) ≡ false) × (has r v ≡ false)
      parts = or_parts (nat_lt v (first_gate c.aig)) (has r v) (not-true (nat_lt v (first_gate c.aig) || has r v) far)

      inside : IsLatchOrIn c.aig r v → ⊥
      inside (inl latch) = true≢false (sym (lt-ltb v (first_gate c.aig) (latch_place c.aig v latch.0 latch.1).below) ∙ parts.0)
      inside (inr member) = true≢false (sym (is_true (has r v) ((has_iff_contains r v).1 member)) ∙ parts.1)

  -- a gate outside the set is no variable of its border, and the node after it lies on the far side
  pub outside-gate : (v : ℕ) → first_gate c.aig ≤ v → has r v ≡ false → (far_after c held r v ≡ true) × (borders c held r v ≡ false)
  unfolding far_after borders
  outside-gate v h out =
      let none : (is_known (latch_at c.aig v) || has r v) ≡ false = ap₂ (λ (o : Option Latch) (b : Bool). is_known o || b) (latch_at-gates c.aig v h) out in (
        ap (λ (b : Bool). not b || (is_held c.aig held v || is_read_outside c.aig c.props (has r) v)) none,
        ap (λ (b : Bool). b && (is_held c.aig held v || is_read_outside c.aig c.props (has r) v)) none,
      )

  -- a member, or a known latch, is in the border if the node after it lies there
  pub holder-borders : (v : ℕ) → (is_known (latch_at c.aig v) || has r v) ≡ true → borders c held r v ≡ far_after c held r v
  unfolding far_after borders
  holder-borders v h =
      ap (λ (b : Bool). b && (is_held c.aig held v || is_read_outside c.aig c.props (has r) v)) h
      ∙ sym (ap (λ (b : Bool). not b || (is_held c.aig held v || is_read_outside c.aig c.props (has r) v)) h)

  -- another latch isn't
  pub other-latch : (v : ℕ) → v < first_gate c.aig → is_known (latch_at c.aig v) ≡ false → borders c held r v ≡ false
  unfolding borders
  other-latch v h no' = ap₂ (λ (a b : Bool). (a || b) && (is_held c.aig held v || is_read_outside c.aig c.props (has r) v)) no' (outside-gates v h)
