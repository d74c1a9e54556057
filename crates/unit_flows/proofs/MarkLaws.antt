-- Marks that stay within a set of nodes.
use Rattle.std.proofs.Common.{◌≡◌, ◌⊎◌, ℕ, ◌+◌, ◌-◌, ◌<◌, ◌≤◌, ◌==◌, nat_le, Bool, true, false, not, ◌&&◌, List, length, slice_set, get_or, get_or-set_same, get_or-set_other, replicate, arith, refl, ap, sym, ◌∙◌, subst, inl, inr}
use Rattle.std.proofs.lemmas.Bool.{cases_eq, cases_lt, le-leb, leb-true, eqb-true, or_cases, and_parts, true≢false, false≢true}
use Rattle.std.proofs.lemmas.List.{get_or_past, length-set}
use Rattle.aig_graph.specs.Marking.{Marks, mark_at}
use Rattle.aig_graph.specs.Tables.{table}
use Rattle.aig_graph.proofs.MarkingLaws.{AreMarks-table, none-marked}
use Rattle.aig_graph.proofs.TableLaws.{length-table}
use Rattle.aig_graph.specs.Graph.{first_latch, latches_and_gates}
use Rattle.aig_graph.specs.Circuits.{Netlist}
use Rattle.frame_net.specs.Capacity.{is_observed}
use Rattle.unit_flows.specs.declared.gate_flow.GateFlow.{GateFlow}
use Rattle.unit_flows.specs.Marks.{AreWithin, ReachSink}
use Rattle.unit_flows.specs.Onward.{AreReachedFromLeft}

-- a mark is an old one, or passes
pub mark-new : (first : ℕ) (old new : List Bool) (p : ℕ → Bool) (v : ℕ) → Marks first old new p → mark_at first new v ≡ true → (mark_at first old v ≡ true) ⊎ (p v ≡ true)
unfolding mark_at
mark-new first old new p v marks e =
    let parts = and_parts (nat_le first v) (get_or new (v - first) false) e in
    let low : first ≤ v = leb-true first v parts.0 in
    let place : first + (v - first) ≡ v = omega arith in
    elim (cases_lt (v - first) (length old)) [
      | inl below ↦ elim (or_cases (get_or old (v - first) false) (p (first + (v - first))) (sym (marks.each (v - first) below) ∙ parts.1)) [
        | inl before ↦ inl (ap (λ (b : Bool). b && get_or old (v - first) false) parts.0 ∙ before)
        | inr now ↦ inr (sym (ap p place) ∙ now)
      ]
      | inr past ↦ absurd (false≢true (sym (get_or_past new (v - first) false (omega (arith, past, marks.as_long))) ∙ parts.1))
    ]

one : (wished : Bool) (var v : ℕ) (b : ℕ → Bool) → (wished ≡ true → b var ≡ true) → (wished && (var == v)) ≡ true → b v ≡ true
one wished var v b h e =
    let parts = and_parts wished (var == v) e in
    sym (ap b (eqb-true var v parts.1)) ∙ h parts.0

-- marks before variables stay within a set of nodes as a node of the set is marked there
pub within-before : (first var : ℕ) (xs new ys : List Bool) (wished : Bool) (b a : ℕ → Bool) → AreWithin first xs ys b a → Marks first xs new (λ v. wished && (var == v)) → (wished ≡ true → b var ≡ true)
    → AreWithin first new ys b a
within-before first var xs new ys wished b a within marks h = record {
  each_before = λ v e. elim (mark-new first xs new (λ v. wished && (var == v)) v marks e) [ inl old ↦ within.each_before v old | inr now ↦ one wished var v b h now ];
  each_after = within.each_after;
}

-- marks after variables stay within a set of nodes as a node of the set is marked there
pub within-after : (first var : ℕ) (xs new ys : List Bool) (wished : Bool) (b a : ℕ → Bool) → AreWithin first ys xs b a → Marks first xs new (λ v. wished && (var == v)) → (wished ≡ true → a var ≡ true)
    → AreWithin first ys new b a
within-after first var xs new ys wished b a within marks h = record {
  each_before = within.each_before;
  each_after = λ v e. elim (mark-new first xs new (λ v. wished && (var == v)) v marks e) [ inl old ↦ within.each_after v old | inr now ↦ one wished var v a h now ];
}

-- before any sweep what leaves is marked after, and nothing before
pub reach-first : (c : Netlist) (held : List ℕ) (flows : List GateFlow) (n : ℕ) (xs ys : List Bool) → xs ≡ replicate n false → ys ≡ table (first_latch c.aig) (latches_and_gates c.aig) (is_observed c.aig c.props held)
    → ReachSink c held flows xs ys
unfolding mark_at
reach-first c held flows n xs ys none filled b a up = record {
  each_before = λ v e. absurd (true≢false (sym e ∙ ap (λ (zs : List Bool). mark_at (first_latch c.aig) zs v) none ∙ none-marked (first_latch c.aig) n v));
  each_after = λ v e. up.sink v (leaving v e);
}
  where
    leaving : (v : ℕ) → mark_at (first_latch c.aig) ys v ≡ true → is_observed c.aig c.props held v ≡ true
    leaving v e =
        let parts = and_parts (nat_le (first_latch c.aig) v) (get_or ys (v - first_latch c.aig) false) e in
        let low : first_latch c.aig ≤ v = leb-true (first_latch c.aig) v parts.0 in
        let place : first_latch c.aig + (v - first_latch c.aig) ≡ v = omega (arith, low) in
        let long : length ys ≡ latches_and_gates c.aig = ap length filled ∙ length-table (first_latch c.aig) (latches_and_gates c.aig) (is_observed c.aig c.props held) in
        elim (cases_lt (v - first_latch c.aig) (length ys)) [
          | inl below ↦ sym (ap (is_observed c.aig c.props held) place) ∙ sym (AreMarks-table (first_latch c.aig) (latches_and_gates c.aig) ys (is_observed c.aig c.props held) filled (v - first_latch c.aig) below) ∙ parts.1
          | inr past ↦ absurd (true≢false (sym parts.1 ∙ get_or_past ys (v - first_latch c.aig) false past))
        ]

-- marks that equal those that all reach the sink all reach the sink
pub reach-same : (c : Netlist) (held : List ℕ) (flows : List GateFlow) (xs xs' ys ys' : List Bool) → xs' ≡ xs → ys' ≡ ys → ReachSink c held flows xs ys → ReachSink c held flows xs' ys'
reach-same c held flows xs xs' ys ys' e f reach =
    subst (λ (zs : List Bool). ReachSink c held flows zs ys') (sym e) (subst (λ (zs : List Bool). ReachSink c held flows xs zs) (sym f) reach)

-- that, by numbers that are equal
pub within-before_at : (first first' var var' : ℕ) (xs new ys : List Bool) (wished : Bool) (b a : ℕ → Bool) → first ≡ first' → var ≡ var' → AreWithin first' xs ys b a → Marks first xs new (λ v. wished && (var == v))
    → (wished ≡ true → b var' ≡ true) → AreWithin first' new ys b a
within-before_at first first' var var' xs new ys wished b a e f within marks h =
    within-before first' var' xs new ys wished b a within (subst (λ (n : ℕ). Marks n xs new (λ v. wished && (var' == v))) e (subst (λ (n : ℕ). Marks first xs new (λ v. wished && (n == v))) f marks)) h

-- marks after variables stay within a set as a node of the set is marked, whose place is given by
-- equal numbers
pub within-after_at : (first first' var var' : ℕ) (xs new ys : List Bool) (wished : Bool) (b a : ℕ → Bool) → first ≡ first' → var ≡ var' → AreWithin first' ys xs b a → Marks first xs new (λ v. wished && (var == v))
    → (wished ≡ true → a var' ≡ true) → AreWithin first' ys new b a
within-after_at first first' var var' xs new ys wished b a e f within marks h =
    within-after first' var' xs new ys wished b a within (subst (λ (n : ℕ). Marks n xs new (λ v. wished && (var' == v))) e (subst (λ (n : ℕ). Marks first xs new (λ v. wished && (n == v))) f marks)) h

-- in tables of nothing nothing is marked
pub left-first : (c : Netlist) (held : List ℕ) (flows : List GateFlow) (went came : List ℕ) (n m : ℕ) (xs ys : List Bool) → xs ≡ replicate n false → ys ≡ replicate m false → AreReachedFromLeft c held flows went came xs ys
left-first c held flows went came n m xs ys none none' b a down = record {
  each_before = λ v e. absurd (true≢false (sym e ∙ ap (λ (zs : List Bool). mark_at (first_latch c.aig) zs v) none ∙ none-marked (first_latch c.aig) n v));
  each_after = λ v e. absurd (true≢false (sym e ∙ ap (λ (zs : List Bool). mark_at (first_latch c.aig) zs v) none' ∙ none-marked (first_latch c.aig) m v));
}

-- marks that equal those that are all reached from where a unit is left are all reached from there
pub left-same : (c : Netlist) (held : List ℕ) (flows : List GateFlow) (went came : List ℕ) (xs xs' ys ys' : List Bool) → xs' ≡ xs → ys' ≡ ys → AreReachedFromLeft c held flows went came xs ys → AreReachedFromLeft c held flows went came xs' ys'
left-same c held flows went came xs xs' ys ys' e f reach =
    subst (λ (zs : List Bool). AreReachedFromLeft c held flows went came zs ys') (sym e) (subst (λ (zs : List Bool). AreReachedFromLeft c held flows went came xs zs) (sym f) reach)

-- of some marks the first k are turned, and the others aren't
pub record AreTurned (old new : List Bool) (k : ℕ) : Type 0 where
  -- as many marks
  pub long : length new ≡ length old
  -- the first k
  pub turned : (i : ℕ) → i < k → i < length old → get_or new i false ≡ not (get_or old i false)
  -- the others
  pub same : (i : ℕ) → k ≤ i → get_or new i false ≡ get_or old i false

-- no mark is turned
pub turned-none : (xs : List Bool) → AreTurned xs xs 0
turned-none xs = record {
  long = refl;
  turned = λ i low within. absurd (omega (arith, low));
  same = λ i high. refl;
}

-- one more is turned
pub turned-more : (old new : List Bool) (k : ℕ) → AreTurned old new k → k < length old → AreTurned old (slice_set new k (not (get_or new k false))) (k + 1)
turned-more old new k so here = record {
  long = length-set new k (not (get_or new k false)) ∙ so.long;
  turned = λ i low within. elim (cases_eq i k) [
    | inl at ↦ rw at (get_or-set_same new k (not (get_or new k false)) false (omega (arith, here, so.long)) ∙ ap not (so.same k (omega arith)))
    | inr other ↦ get_or-set_other new k i (not (get_or new k false)) false other ∙ so.turned i (omega (arith, low, other)) within
  ];
  same = λ i high. get_or-set_other new k i (not (get_or new k false)) false (λ e. omega (arith, high, e)) ∙ so.same i (omega (arith, high));
}

-- what isn't marked if marks are turned is marked
pub flipped-off : (first n : ℕ) (xs ys : List Bool) (v : ℕ) → ((k : ℕ) → k < length xs → get_or ys k false ≡ not (get_or xs k false)) → length xs ≡ n → first ≤ v → v < first + n → mark_at first ys v ≡ false → mark_at first xs v ≡ true
unfolding mark_at
flipped-off first n xs ys v turned long low high off =
    let here : v - first < length xs = omega (arith, long, low, high) in
    let other : get_or ys (v - first) false ≡ not (get_or xs (v - first) false) = turned (v - first) here in
    let in_row : nat_le first v ≡ true = le-leb first v low in
    let none : not (get_or xs (v - first) false) ≡ false = sym other ∙ sym (ap (λ (b : Bool). b && get_or ys (v - first) false) in_row) ∙ off in
    ap (λ (b : Bool). b && get_or xs (v - first) false) in_row ∙ not-off (get_or xs (v - first) false) none
  where
    not-off : (b : Bool) → not b ≡ false → b ≡ true
    not-off true e = refl
    not-off false e = absurd (cc)
