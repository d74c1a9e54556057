-- A full cut, all of whose marks reach the sink, shows the greatest least set.
use Rattle.std.proofs.Common.{◌≡◌, ℕ, ◌+◌, ◌-◌, ◌<◌, ◌≤◌, ◌==◌, nat_lt, Bool, true, false, not, ◌&&◌, ◌||◌, IsTrue, List, length, Option, Some, None, arith, refl, ap, ap₂, sym, ◌∙◌, subst, inl, inr}
use Rattle.std.specs.Option.{SomeIff, IfSome}
use Rattle.std.specs.List.{Contains}
use Rattle.std.specs.List.Sorted.{IsStrictlyIncreasing}
use Rattle.std.proofs.lemmas.Bool.{cases_Bool, le-ltb, eqb-true, eq-eqb, or_cases, or_left, or_right, or_parts, and_from, and_parts, not-true, false_from_ne_true, true≢false}
use Rattle.std.proofs.lemmas.Option.{same_Some}
use Rattle.frame_net.proofs.SumLaws.{sum_below-le}
use Rattle.aig_graph.specs.Counting.{count_below}
use Rattle.aig_graph.specs.Marking.{has, mark_at}
use Rattle.aig_graph.proofs.CountingLaws.{count-none}
use Rattle.aig_graph.specs.declared.graph.Gate.{Gate}
use Rattle.aig_graph.specs.declared.graph.Latch.{Latch}
use Rattle.aig_graph.specs.Graph.{IsGraph, variable, first_latch, first_gate, variables_end, latches_and_gates, latch_at, gate_at, is_known}
use Rattle.aig_graph.specs.Circuits.{Netlist}
use Rattle.aig_graph.specs.Closed.{is_held, is_settled, may_move, IsClosedSet, IsLatchOrIn}
use Rattle.aig_graph.specs.Move.{move_of}
use Rattle.aig_graph.specs.Border.{is_read_outside, border_size}
use Rattle.aig_graph.proofs.ClosedBorderLaws.{closed-border_size}
use Rattle.aig_graph.proofs.ClosedLaws.{is_settled-gate, movable-latch}
use Rattle.aig_graph.proofs.KindLaws.{latch_at-before}
use Rattle.aig_graph.proofs.SearchLaws.{has_iff_contains}
use Rattle.frame_net.specs.Passable.{is_passable}
use Rattle.frame_net.specs.Capacity.{gate_reads, is_observed}
use Rattle.frame_net.proofs.PassableLaws.{passable-means, passable-at_gate, settled-split, is_true}
use Rattle.frame_net.proofs.ReadLaws.{read-split}
use Rattle.frame_net.proofs.NetLaws.{gate-range}
use Rattle.unit_flows.specs.declared.gate_flow.GateFlow.{GateFlow}
use Rattle.unit_flows.specs.Units.{unit, nth_gate, nth_flow, AreTallies, IsBalanced, arrivals}
use Rattle.unit_flows.specs.Marks.{HoldsTails, IsUpstream}
use Rattle.unit_flows.specs.Shown.{is_off, IsCutAt, crosses, IsFullCut}
use Rattle.unit_flows.specs.Laws.{BorderLaw, ShownLaw}
use Rattle.unit_flows.proofs.SideLaws.{borders, far_after, far_before, far-outside, nth-at, first-read, second-read, is_observed-far, reads-far, fan_in-far, outside-gate}
use Rattle.unit_flows.proofs.GateSumLaws.{unit-true, unit-false, unit-le, full-through, full-first_home, full-second_home, full-first_back, full-second_back}
use Rattle.unit_flows.proofs.BalanceLaws.{count-sum, split, arrivals-le, full-at}

unit-one : (b : Bool) → unit b ≡ 1 → b ≡ true
unfolding unit
unit-one true e = refl
unit-one false e = absurd (omega (arith, e))

-- ---- the far side of a least set

module _ (c : Netlist) (held r : List ℕ) (flows : List GateFlow) (went came : List ℕ) (set : IsClosedSet c.aig held r)
    (tallies : AreTallies c.aig flows (length c.aig.gates) went came) (balanced : IsBalanced c.aig flows went came)
    (least : border_size (move_of c held r) ≤ arrivals c held flows went) where
  module _ (k : ℕ) (h : k < length c.aig.gates) where
    -- a gate whose node before lies on the far side isn't in the set
    outside : far_before c r (first_gate c.aig + k) ≡ true → has r (first_gate c.aig + k) ≡ false
    outside far = not-true (has r (first_gate c.aig + k)) (sym (far-outside c r (first_gate c.aig + k) (omega arith)) ∙ far)

    far-from : has r (first_gate c.aig + k) ≡ false → far_before c r (first_gate c.aig + k) ≡ true
    far-from out = far-outside c r (first_gate c.aig + k) (omega arith) ∙ ap not out

    -- Let a closed set have no more border than arrivals. Its far side holds the beginning of each
    -- residual arc at a gate that ends there.
    pub tails : HoldsTails (far_before c r) (far_after c held r) (first_gate c.aig + k) (nth_gate c.aig k) (nth_flow flows k)
    tails = record {
      through = λ after stays. unit-one _ (full-through (unit (nth_flow flows k).through) (unit (nth_flow flows k).first_up) (unit (nth_flow flows k).second_up) (nth_flow flows k).first_down (nth_flow flows k).second_down (unit-le _)
          _ _ _ _ _ _ _ (split c held r flows went came set tallies balanced k h) (full-at c held r flows went came set tallies balanced least k h) (unit-true _ after) (unit-false _ stays));
      first_on = λ far. far-from (fan_in-far c held r set (variable (nth_gate c.aig k).rhs1) (first_gate c.aig + k) (nth_gate c.aig k) (nth-at c.aig k h) (or_right (variable (nth_gate c.aig k).rhs0 == variable (nth_gate c.aig k).rhs1) _ (eq-eqb _ _ refl)) far);
      second_on = λ far. far-from (fan_in-far c held r set (variable (nth_gate c.aig k).rhs0) (first_gate c.aig + k) (nth_gate c.aig k) (nth-at c.aig k h) (or_left _ (variable (nth_gate c.aig k).rhs1 == variable (nth_gate c.aig k).rhs0) (eq-eqb _ _ refl)) far);
      first_home = λ after up. unit-one _ (full-first_home (unit (nth_flow flows k).through) (unit (nth_flow flows k).first_up) (unit (nth_flow flows k).second_up) (nth_flow flows k).first_down (nth_flow flows k).second_down (unit-le _)
          _ _ _ _ _ _ _ (split c held r flows went came set tallies balanced k h) (full-at c held r flows went came set tallies balanced least k h) (unit-true _ after) (unit-true _ up));
      second_home = λ after up. unit-one _ (full-second_home (unit (nth_flow flows k).through) (unit (nth_flow flows k).first_up) (unit (nth_flow flows k).second_up) (nth_flow flows k).first_down (nth_flow flows k).second_down (unit-le _)
          _ _ _ _ _ _ _ (split c held r flows went came set tallies balanced k h) (full-at c held r flows went came set tallies balanced least k h) (unit-true _ after) (unit-true _ up));
      first_reads = λ far. reads-far c held r set (variable (nth_gate c.aig k).rhs1) (first_gate c.aig + k) (first-read c.aig k h) (outside far);
      second_reads = λ far. reads-far c held r set (variable (nth_gate c.aig k).rhs0) (first_gate c.aig + k) (second-read c.aig k h) (outside far);
      first_back = λ far down. elim (cases_Bool (far_before c r (variable (nth_gate c.aig k).rhs1))) [
        | inl yes' ↦ yes'
        | inr no' ↦ absurd (full-first_back (unit (nth_flow flows k).through) (unit (nth_flow flows k).first_up) (unit (nth_flow flows k).second_up) (nth_flow flows k).first_down (nth_flow flows k).second_down (unit-le _)
            _ _ _ _ _ _ _ (split c held r flows went came set tallies balanced k h) (full-at c held r flows went came set tallies balanced least k h) (unit-true _ far) down (unit-false _ no'))
      ];
      second_back = λ far down. elim (cases_Bool (far_before c r (variable (nth_gate c.aig k).rhs0))) [
        | inl yes' ↦ yes'
        | inr no' ↦ absurd (full-second_back (unit (nth_flow flows k).through) (unit (nth_flow flows k).first_up) (unit (nth_flow flows k).second_up) (nth_flow flows k).first_down (nth_flow flows k).second_down (unit-le _)
            _ _ _ _ _ _ _ (split c held r flows went came set tallies balanced k h) (full-at c held r flows went came set tallies balanced least k h) (unit-true _ far) down (unit-false _ no'))
      ];
      back = λ far through. (outside-gate c held r set (first_gate c.aig + k) (omega arith) (outside far)).0;
    }

  -- this far side holds the beginning of each residual arc that ends there, and the node after each
  -- observed variable
  pub upstream : IsUpstream c held flows (far_before c r) (far_after c held r)
  upstream = record { sink = λ v l. is_observed-far c held r set v l; gates = tails }

-- ---- the set off the marks

module _ (c : Netlist) (held : List ℕ) (flows : List GateFlow) (went : List ℕ) (before after : ℕ → Bool) (s : List ℕ) (valid : IsGraph c.aig)
    (cut : IsFullCut c held flows went before after) (rising : IsStrictlyIncreasing s) (members : (v : ℕ) → has s v ≡ is_off c held before v) where
  -- a gate by its number among the gates
  abbrev Numbered : ℕ → Type 0
  Numbered v = (k : ℕ) × (k < length c.aig.gates) × (v ≡ first_gate c.aig + k)

  numbered : (v : ℕ) → is_passable c.aig held v ≡ true → Numbered v
  numbered v p = let range = gate-range c.aig held v p in (v - first_gate c.aig, omega (arith, range.0, range.1), omega (arith, range.0))

  cut-at : (v : ℕ) → is_passable c.aig held v ≡ true → (gate : Gate) → gate_at c.aig v ≡ Some gate → IsCutAt (first_gate c.aig) before after v gate
  cut-at v p gate there =
      let n = numbered v p in
      let same : nth_gate c.aig n.0 ≡ gate = same_Some (nth_gate c.aig n.0) gate (sym (nth-at c.aig n.0 n.1) ∙ sym (ap (λ (u : ℕ). gate_at c.aig u) n.2) ∙ there) in
      let at : is_passable c.aig held (first_gate c.aig + n.0) ≡ true = sym (ap (λ (u : ℕ). is_passable c.aig held u) n.2) ∙ p in
      subst (λ (x : Gate). IsCutAt (first_gate c.aig) before after v x) same (subst (λ (u : ℕ). IsCutAt (first_gate c.aig) before after u (nth_gate c.aig n.0)) (sym n.2) (cut.gates n.0 n.1 at))

  member : (v : ℕ) → Contains s v → is_off c held before v ≡ true
  member v m = sym (members v) ∙ is_true (has s v) ((has_iff_contains s v).1 m)

  -- the gates off the marks of a full cut are a closed set
  pub closed : IsClosedSet c.aig held s
  closed = record {
    rising = rising;
    closed = record {
      passable = λ v m. (passable-means c.aig held v).0 (subst (λ (b : Bool). IsTrue b) (sym (and_parts (is_passable c.aig held v) (not (before v)) (member v m)).0) refl);
      fan_ins = λ v gate m there.
          let parts = and_parts (is_passable c.aig held v) (not (before v)) (member v m) in
          let at = cut-at v parts.0 gate there in
          let settled = and_parts (is_settled c.aig held (variable gate.rhs0)) (is_settled c.aig held (variable gate.rhs1))
          (sym (is_settled-gate c.aig held valid v gate there) ∙ sym (passable-at_gate c.aig held v gate there) ∙ parts.0) in (
            latch-or-in (variable gate.rhs0) settled.0 (at.second_off (not-true (before v) parts.1)),
            latch-or-in (variable gate.rhs1) settled.1 (at.first_off (not-true (before v) parts.1)),
          );
    };
  }
    where
      latch-or-in : (u : ℕ) → is_settled c.aig held u ≡ true → (nat_lt u (first_gate c.aig) || not (before u)) ≡ true → IsLatchOrIn c.aig s u
      latch-or-in u settled off = elim (or_cases (is_passable c.aig held u) (may_move c.aig held u) (sym (settled-split c.aig held u) ∙ settled)) [
        | inr moves ↦ inl (movable-latch c.aig held u (subst (λ (b : Bool). IsTrue b) (sym moves) refl))
        | inl passes ↦ inr ((has_iff_contains s u).0 (subst (λ (b : Bool). IsTrue b) (sym (members u ∙ and_from (is_passable c.aig held u) (not (before u)) passes (off-gate passes))) refl))
      ]
        where
          off-gate : is_passable c.aig held u ≡ true → not (before u) ≡ true
          off-gate passes = elim (or_cases (nat_lt u (first_gate c.aig)) (not (before u)) off) [
            | inl low ↦ absurd (true≢false (sym low ∙ le-ltb u (first_gate c.aig) (gate-range c.aig held u passes).0))
            | inr yes' ↦ yes'
          ]

  -- what is in the border crosses
  border-crosses : (p : ℕ) → p < latches_and_gates c.aig → borders c held s (first_latch c.aig + p) ≡ true → crosses c held before after (first_latch c.aig + p) ≡ true
  unfolding borders is_observed
  border-crosses p h b =
      let parts = and_parts (is_known (latch_at c.aig (first_latch c.aig + p)) || has s (first_latch c.aig + p)) (is_held c.aig held (first_latch c.aig + p) || is_read_outside c.aig c.props (has s) (first_latch c.aig + p)) b in
      and_from (is_known (latch_at c.aig (first_latch c.aig + p)) || is_off c held before (first_latch c.aig + p)) (after (first_latch c.aig + p))
      (sym (ap (λ (x : Bool). is_known (latch_at c.aig (first_latch c.aig + p)) || x) (members (first_latch c.aig + p))) ∙ parts.0)
      (elim (cases_Bool (is_observed c.aig c.props held (first_latch c.aig + p))) [
        | inl yes' ↦ cut.sink p h yes'
        | inr no' ↦ by_gate (first_latch c.aig + p) parts.1 (or_parts (is_held c.aig held (first_latch c.aig + p)) (is_read_outside c.aig c.props (is_passable c.aig held) (first_latch c.aig + p)) no')
      ])
    where
      marked-from : (p b : Bool) → p ≡ true → (p && not b) ≡ false → b ≡ true
      marked-from true true e f = refl
      marked-from true false e f = absurd (true≢false f)
      marked-from false b e f = absurd (true≢false (sym e))

      by_gate : (v : ℕ) → (is_held c.aig held v || is_read_outside c.aig c.props (has s) v) ≡ true → (is_held c.aig held v ≡ false) × (is_read_outside c.aig c.props (is_passable c.aig held) v ≡ false) → after v ≡ true
      by_gate v out none =
          let read : is_read_outside c.aig c.props (has s) v ≡ true = sym (ap (λ (x : Bool). x || is_read_outside c.aig c.props (has s) v) none.0) ∙ out in
          let w = read-split c.aig c.props (has s) (is_passable c.aig held) v read none.1 in
          let t = (passable-means c.aig held w.0).0 (subst (λ (x : Bool). IsTrue x) (sym w.3) refl) in
          let at = cut-at w.0 w.3 t.0 t.1 in
          let off : (is_passable c.aig held w.0 && not (before w.0)) ≡ false = sym (members w.0) ∙ w.2 in
          let marked : before w.0 ≡ true = marked-from (is_passable c.aig held w.0) (before w.0) w.3 off in
          elim (or_cases (variable t.0.rhs0 == v) (variable t.0.rhs1 == v) (sym (ap (λ (o : Option Gate). gate_reads v o) t.1) ∙ w.1)) [
            | inl a ↦ subst (λ (u : ℕ). after u ≡ true) (eqb-true (variable t.0.rhs0) v a) (at.second_marked marked)
            | inr b ↦ subst (λ (u : ℕ). after u ≡ true) (eqb-true (variable t.0.rhs1) v b) (at.first_marked marked)
          ]

  unit-more : (a b : Bool) → (a ≡ true → b ≡ true) → unit a ≤ unit b
  unit-more a b h = elim (cases_Bool a) [
    | inl yes' ↦ omega (arith, unit-true a yes', unit-true b (h yes'))
    | inr no' ↦ omega (arith, unit-false a no')
  ]

  -- so the border isn't larger than there are units that arrive
  pub border-le : border_size (move_of c held s) ≤ arrivals c held flows went
  unfolding borders
  border-le =
      let end : first_latch c.aig + latches_and_gates c.aig ≡ variables_end c.aig = omega arith in
      omega (
        arith,
        cut.full,
        closed-border_size c held s closed,
        ap (λ (n : ℕ). count_below (λ v. (is_known (latch_at c.aig v) || has s v) && (is_held c.aig held v || is_read_outside c.aig c.props (has s) v)) n) end,
        count-sum (λ v. (is_known (latch_at c.aig v) || has s v) && (is_held c.aig held v || is_read_outside c.aig c.props (has s) v)) (first_latch c.aig) (latches_and_gates c.aig),
        count-none (λ v. (is_known (latch_at c.aig v) || has s v) && (is_held c.aig held v || is_read_outside c.aig c.props (has s) v)) (first_latch c.aig) low,
        sum_below-le (latches_and_gates c.aig) (λ p. unit ((is_known (latch_at c.aig (first_latch c.aig + p)) || has s (first_latch c.aig + p)) && (is_held c.aig held (first_latch c.aig + p) || is_read_outside c.aig c.props (has s) (first_latch c.aig + p))))
            (λ p. unit (crosses c held before after (first_latch c.aig + p))) (λ p h. unit-more _ _ (border-crosses p h)),
      )
    where
      low : (v : ℕ) → v < first_latch c.aig → ((is_known (latch_at c.aig v) || has s v) && (is_held c.aig held v || is_read_outside c.aig c.props (has s) v)) ≡ false
      low v h =
          let none : has s v ≡ false = false_from_ne_true (has s v) (λ m.
          omega (arith, h, (gate-range c.aig held v (and_parts (is_passable c.aig held v) (not (before v)) (sym (members v) ∙ m)).0).0)) in
          ap₂ (λ (o : Option Latch) (b : Bool). (is_known o || b) && (is_held c.aig held v || is_read_outside c.aig c.props (has s) v)) (latch_at-before c.aig v h) none

-- no closed set has a smaller border than there are units that arrive
pub border-law : BorderLaw
border-law c held flows went came r valid tallies balanced set = arrivals-le c held r flows went came set tallies balanced

-- a full cut, each of whose marks reaches the sink, shows the greatest least set
pub shown-law : ShownLaw
shown-law c held flows marks_before marks_after s valid shown reach rising members =
    let before : ℕ → Bool = mark_at (first_latch c.aig) marks_before in
    let after : ℕ → Bool = mark_at (first_latch c.aig) marks_after in
    let set = closed c held flows shown.went before after s valid shown.full_cut rising members in
    let small = border-le c held flows shown.went before after s valid shown.full_cut rising members in
    record {
      least = record {
        closed = set;
        least = λ r closed-r. omega (arith, small, arrivals-le c held r flows shown.went shown.came closed-r shown.tallies shown.balanced);
      };
      holds = λ r least v m.
          let up = upstream c held r flows shown.went shown.came least.closed shown.tallies shown.balanced (omega (arith, least.least s set, small)) in
          let passes : is_passable c.aig held v ≡ true = is_true (is_passable c.aig held v) ((passable-means c.aig held v).1 (least.closed.closed.passable v m)) in
          let in_r : has r v ≡ true = is_true (has r v) ((has_iff_contains r v).1 m) in
          let off : mark_at (first_latch c.aig) marks_before v ≡ false = false_from_ne_true (mark_at (first_latch c.aig) marks_before v) (λ marked.
          true≢false (sym ((reach (far_before c r) (far_after c held r) up).each_before v marked) ∙ far-outside c r v (gate-range c.aig held v passes).0 ∙ ap not in_r)) in
          (has_iff_contains s v).0 (subst (λ (b : Bool). IsTrue b) (sym (members v ∙ and_from (is_passable c.aig held v) (not (mark_at (first_latch c.aig) marks_before v)) passes (ap not off))) refl);
    }

-- if an optional list is v just if P holds, and P gives Q of v, a list that is there has Q
pub if_some : (o : Option (List ℕ)) (P : Type 0) (v : List ℕ) (Q : List ℕ → Type 0) → SomeIff o P v → (P → Q v) → IfSome o Q
if_some None P v Q is q = tt
if_some (Some x) P v Q is q = subst Q (sym is.1) (q is.0)
