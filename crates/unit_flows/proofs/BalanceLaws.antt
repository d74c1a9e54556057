-- What the units of a balanced flow weigh on the far side of a closed set.
use Rattle.std.proofs.Common.{◌≡◌, ℕ, suc, zero, ◌+◌, ◌-◌, ◌*◌, ◌<◌, ◌≤◌, ◌==◌, nat_lt, Bool, true, false, not, ◌&&◌, ◌||◌, List, length, slice_index, arith, refl, ap, ap₂, sym, ◌∙◌, inl, inr}
use Rattle.std.proofs.lemmas.Bool.{cases_Bool, lt-ltb, le-ltb, eqb-true, eq-eqb, and_parts, cond-true, cond-false, or_left, not-true, false_from_ne_true, true≢false}
use Rattle.frame_net.specs.Flow.{sum_below}
use Rattle.frame_net.proofs.SumLaws.{sum_below-add, sum_below-same, sum_below-le, rise-le}
use Rattle.aig_graph.specs.Counting.{count_below}
use Rattle.aig_graph.specs.Marking.{has}
use Rattle.aig_graph.proofs.PlacesLaws.{count-pass, count-fail}
use Rattle.aig_graph.specs.Graph.{variable, first_latch, first_gate, latches_and_gates, latch_at, is_known}
use Rattle.aig_graph.specs.Circuits.{Netlist}
use Rattle.aig_graph.specs.Closed.{is_held, IsClosedSet}
use Rattle.aig_graph.specs.Move.{move_of}
use Rattle.aig_graph.specs.Border.{border_size, is_read_outside}
use Rattle.aig_graph.proofs.ClosedBorderLaws.{closed-border_size}
use Rattle.frame_net.specs.Capacity.{is_observed}
use Rattle.unit_flows.specs.declared.gate_flow.GateFlow.{GateFlow}
use Rattle.unit_flows.specs.Units.{unit, nth_gate, nth_flow, ups, downs, comes_after, AreTallies, IsBalanced, arrives, arrivals}
use Rattle.unit_flows.specs.Onward.{waits, IsFuller}
use Rattle.unit_flows.proofs.SideLaws.{borders, far_after, far_before, far-outside, first-read, second-read, nth-at, is_observed-far, reads-far, fan_in-far, outside-gate, holder-borders}
use Rattle.unit_flows.proofs.GateSumLaws.{unit-true, unit-false, unit-le, IsSplit, comes, goes, comes-le}

-- ---- sums

-- a sum of n + m terms is the sum of the first n and that of the other m
pub sum-split : (n m : ℕ) (f : ℕ → ℕ) → sum_below (n + m) f ≡ sum_below n f + sum_below m (λ k. f (n + k))
sum-split n zero f =
    let same : n + 0 ≡ n = omega arith in
    omega (arith, ap (λ (i : ℕ). sum_below i f) same)
sum-split n (suc m) f =
    let more : n + suc m ≡ suc (n + m) = omega arith in
    omega (arith, ap (λ (i : ℕ). sum_below i f) more, sum-split n m f)

-- those below n + m that pass are those below n, and one for each of the next m that passes
pub count-sum : (p : ℕ → Bool) (n m : ℕ) → count_below p (n + m) ≡ count_below p n + sum_below m (λ k. unit (p (n + k)))
count-sum p n zero =
    let same : n + 0 ≡ n = omega arith in
    omega (arith, ap (λ (i : ℕ). count_below p i) same)
count-sum p n (suc m) =
    let more : n + suc m ≡ suc (n + m) = omega arith in
    elim (cases_Bool (p (n + m))) [
      | inl yes' ↦ omega (arith, ap (λ (i : ℕ). count_below p i) more, count-pass p (n + m) yes', count-sum p n m, unit-true (p (n + m)) yes')
      | inr no' ↦ omega (arith, ap (λ (i : ℕ). count_below p i) more, count-fail p (n + m) no', count-sum p n m, unit-false (p (n + m)) no')
    ]

-- one entry, of which a part arrives
entry-parts : (w comes y : ℕ) (arrives : Bool) → w ≤ comes → y ≤ 1 → (arrives ≡ true → (comes ≡ 1) × (w ≡ 0) × (y ≡ 1)) → w * y + unit arrives ≤ comes * y
entry-parts w m y a h small is = elim (cases_Bool a) [
  | inl yes' ↦ (
      let t = is yes' in
      rw (t.0, t.1, t.2) (omega (arith, unit-true a yes')))
  | inr no' ↦ omega (arith, unit-false a no', mul-mono w m y h small)
]
  where
    mul-mono : (w m y : ℕ) → w ≤ m → y ≤ 1 → w * y ≤ m * y
    mul-mono w m zero h small = omega arith
    mul-mono w m (suc zero) h small = omega (arith, h)
    mul-mono w m (suc (suc y)) h small = absurd (omega (arith, small))

module _ (c : Netlist) (held r : List ℕ) (flows : List GateFlow) (went came : List ℕ) (set : IsClosedSet c.aig held r)
    (tallies : AreTallies c.aig flows (length c.aig.gates) went came) (balanced : IsBalanced c.aig flows went came) where
  -- what the nodes after and before variables weigh
  abbrev pub weight_after : ℕ → ℕ
  weight_after v = unit (far_after c held r v)

  abbrev pub weight_before : ℕ → ℕ
  weight_before v = unit (far_before c r v)

  -- the side of the k-th gate
  pub split : (k : ℕ) → k < length c.aig.gates → IsSplit (weight_before (first_gate c.aig + k)) (weight_after (first_gate c.aig + k)) (unit (borders c held r (first_gate c.aig + k)))
      (weight_after (variable (nth_gate c.aig k).rhs1)) (weight_after (variable (nth_gate c.aig k).rhs0)) (weight_before (variable (nth_gate c.aig k).rhs1)) (weight_before (variable (nth_gate c.aig k).rhs0))
  split k h =
      let low : first_gate c.aig ≤ first_gate c.aig + k = omega arith in
      elim (cases_Bool (has r (first_gate c.aig + k))) [
        | inl member ↦ inr (record {
          before_is = unit-false _ (far-outside c r (first_gate c.aig + k) low ∙ ap not member);
          after_le = unit-le _;
          border_is = ap unit (holder-borders c held r set (first_gate c.aig + k) (or-right-true (is_known (latch_at c.aig (first_gate c.aig + k))) (has r (first_gate c.aig + k)) member));
          before1_is = unit-false _ (not-far (variable (nth_gate c.aig k).rhs1) (λ far. true≢false (sym member ∙ fan_in-far c held r set (variable (nth_gate c.aig k).rhs1) (first_gate c.aig + k) (nth_gate c.aig k) (nth-at c.aig k h) (fan1 k) far)));
          before2_is = unit-false _ (not-far (variable (nth_gate c.aig k).rhs0) (λ far. true≢false (sym member ∙ fan_in-far c held r set (variable (nth_gate c.aig k).rhs0) (first_gate c.aig + k) (nth_gate c.aig k) (nth-at c.aig k h) (fan0 k) far)));
        })
        | inr out ↦ (
            let gate = outside-gate c held r set (first_gate c.aig + k) low out in
            inl (record {
              before_is = unit-true _ (far-outside c r (first_gate c.aig + k) low ∙ ap not out);
              after_is = unit-true _ gate.0;
              border_is = unit-false _ gate.1;
              after1_is = unit-true _ (reads-far c held r set (variable (nth_gate c.aig k).rhs1) (first_gate c.aig + k) (first-read c.aig k h) out);
              after2_is = unit-true _ (reads-far c held r set (variable (nth_gate c.aig k).rhs0) (first_gate c.aig + k) (second-read c.aig k h) out);
              before1_le = unit-le _;
              before2_le = unit-le _;
            }))
      ]
    where
      or-right-true : (a b : Bool) → b ≡ true → (a || b) ≡ true
      or-right-true true b e = refl
      or-right-true false b e = e

      not-far : (v : ℕ) → (far_before c r v ≡ true → ⊥) → far_before c r v ≡ false
      not-far v never = elim (cases_Bool (far_before c r v)) [ inl yes' ↦ absurd (never yes') | inr no' ↦ no' ]

      fan1 : (k : ℕ) → ((variable (nth_gate c.aig k).rhs0 == variable (nth_gate c.aig k).rhs1) || (variable (nth_gate c.aig k).rhs1 == variable (nth_gate c.aig k).rhs1)) ≡ true
      fan1 k = or-right-true (variable (nth_gate c.aig k).rhs0 == variable (nth_gate c.aig k).rhs1) (variable (nth_gate c.aig k).rhs1 == variable (nth_gate c.aig k).rhs1) (eq-eqb (variable (nth_gate c.aig k).rhs1) (variable (nth_gate c.aig k).rhs1) refl)

      fan0 : (k : ℕ) → ((variable (nth_gate c.aig k).rhs0 == variable (nth_gate c.aig k).rhs0) || (variable (nth_gate c.aig k).rhs1 == variable (nth_gate c.aig k).rhs0)) ≡ true
      fan0 k = or_left (variable (nth_gate c.aig k).rhs0 == variable (nth_gate c.aig k).rhs0) (variable (nth_gate c.aig k).rhs1 == variable (nth_gate c.aig k).rhs0) (eq-eqb (variable (nth_gate c.aig k).rhs0) (variable (nth_gate c.aig k).rhs0) refl)

  -- what comes to far nodes at the k-th gate, and what goes on from them, with the border
  abbrev pub comes_at : ℕ → ℕ
  comes_at k = comes (unit (nth_flow flows k).through) (unit (nth_flow flows k).first_up) (unit (nth_flow flows k).second_up) (nth_flow flows k).first_down (nth_flow flows k).second_down (unit-le (nth_flow flows k).through)
      (weight_before (first_gate c.aig + k)) (weight_after (first_gate c.aig + k)) (unit (borders c held r (first_gate c.aig + k)))
      (weight_after (variable (nth_gate c.aig k).rhs1)) (weight_after (variable (nth_gate c.aig k).rhs0)) (weight_before (variable (nth_gate c.aig k).rhs1)) (weight_before (variable (nth_gate c.aig k).rhs0))

  abbrev pub goes_at : ℕ → ℕ
  goes_at k = goes (unit (nth_flow flows k).through) (unit (nth_flow flows k).first_up) (unit (nth_flow flows k).second_up) (nth_flow flows k).first_down (nth_flow flows k).second_down (unit-le (nth_flow flows k).through)
      (weight_before (first_gate c.aig + k)) (weight_after (first_gate c.aig + k)) (unit (borders c held r (first_gate c.aig + k)))
      (weight_after (variable (nth_gate c.aig k).rhs1)) (weight_after (variable (nth_gate c.aig k).rhs0)) (weight_before (variable (nth_gate c.aig k).rhs1)) (weight_before (variable (nth_gate c.aig k).rhs0))

  -- ---- what the units weigh after variables

  after-entry : (p : ℕ) → p < latches_and_gates c.aig
      → slice_index went p * weight_after (first_latch c.aig + p) + unit (arrives c held flows went p) ≤ unit (comes_after c.aig flows p) * weight_after (first_latch c.aig + p)
  after-entry p h = entry-parts (slice_index went p) (unit (comes_after c.aig flows p)) (weight_after (first_latch c.aig + p)) (arrives c held flows went p) (balanced.after p h) (unit-le _) (λ arrives.
      let parts = and_parts (is_observed c.aig c.props held (first_latch c.aig + p) && comes_after c.aig flows p) (slice_index went p == 0) arrives in
      let first = and_parts (is_observed c.aig c.props held (first_latch c.aig + p)) (comes_after c.aig flows p) parts.0 in
      (unit-true _ first.1, eqb-true (slice_index went p) 0 parts.1, unit-true _ (is_observed-far c held r set (first_latch c.aig + p) first.0)))

  latch-entry : (j : ℕ) → j < length c.aig.latches → unit (comes_after c.aig flows j) * weight_after (first_latch c.aig + j) ≤ unit (borders c held r (first_latch c.aig + j))
  latch-entry j h =
      let comes_is : comes_after c.aig flows j ≡ is_known (latch_at c.aig (first_latch c.aig + j)) = cond-true (nat_lt j (length c.aig.latches)) _ _ (lt-ltb j (length c.aig.latches) h) in
      elim (cases_Bool (is_known (latch_at c.aig (first_latch c.aig + j)))) [
        | inl known ↦ omega (
          arith,
          ap (λ (n : ℕ). n * weight_after (first_latch c.aig + j)) (unit-true (comes_after c.aig flows j) (comes_is ∙ known)),
          ap unit (holder-borders c held r set (first_latch c.aig + j) (or_left (is_known (latch_at c.aig (first_latch c.aig + j))) (has r (first_latch c.aig + j)) known)),
        )
        | inr other ↦ omega (arith, ap (λ (n : ℕ). n * weight_after (first_latch c.aig + j)) (unit-false (comes_after c.aig flows j) (comes_is ∙ other)))
      ]

  gate-entry : (k : ℕ) → unit (comes_after c.aig flows (length c.aig.latches + k)) * weight_after (first_latch c.aig + (length c.aig.latches + k))
      ≡ unit (nth_flow flows k).through * weight_after (first_gate c.aig + k)
  gate-entry k =
      let place : length c.aig.latches + k - length c.aig.latches ≡ k = omega arith in
      let there : first_latch c.aig + (length c.aig.latches + k) ≡ first_gate c.aig + k = omega arith in
      let late : comes_after c.aig flows (length c.aig.latches + k) ≡ (nth_flow flows (length c.aig.latches + k - length c.aig.latches)).through =
      cond-false (nat_lt (length c.aig.latches + k) (length c.aig.latches)) _ _ (le-ltb (length c.aig.latches + k) (length c.aig.latches) (omega arith)) in
      let comes_is : comes_after c.aig flows (length c.aig.latches + k) ≡ (nth_flow flows k).through = late ∙ ap (λ (i : ℕ). (nth_flow flows i).through) place in
      ap₂ (λ (b : Bool) (v : ℕ). unit b * weight_after v) comes_is there

  abbrev after_goes : ℕ → ℕ
  after_goes p = slice_index went p * weight_after (first_latch c.aig + p) + unit (arrives c held flows went p)

  abbrev after_comes : ℕ → ℕ
  after_comes p = unit (comes_after c.aig flows p) * weight_after (first_latch c.aig + p)

  -- if n fewer go on than come
  after-less : (d : ℕ) → sum_below (latches_and_gates c.aig) after_goes + d ≤ sum_below (latches_and_gates c.aig) after_comes
      → sum_below (length c.aig.gates) (λ k. ups weight_after (nth_gate c.aig k) (nth_flow flows k)) + arrivals c held flows went + d
      ≤ sum_below (length c.aig.latches) (λ j. unit (borders c held r (first_latch c.aig + j)))
      + sum_below (length c.aig.gates) (λ k. unit (nth_flow flows k).through * weight_after (first_gate c.aig + k))
  after-less d h = omega (
    arith,
    h,
    tallies.ups weight_after,
    ap (λ (n : ℕ). sum_below n (λ p. slice_index went p * weight_after (first_latch c.aig + p))) tallies.as_long,
    sum_below-add (latches_and_gates c.aig) (λ p. slice_index went p * weight_after (first_latch c.aig + p)) (λ p. unit (arrives c held flows went p)),
    sum-split (length c.aig.latches) (length c.aig.gates) (λ p. unit (comes_after c.aig flows p) * weight_after (first_latch c.aig + p)),
    sum_below-le (length c.aig.latches) (λ j. unit (comes_after c.aig flows j) * weight_after (first_latch c.aig + j)) (λ j. unit (borders c held r (first_latch c.aig + j))) latch-entry,
    sum_below-same (length c.aig.gates) (λ k. unit (comes_after c.aig flows (length c.aig.latches + k)) * weight_after (first_latch c.aig + (length c.aig.latches + k))) (λ k. unit (nth_flow flows k).through * weight_after (first_gate c.aig + k)) (λ k h. gate-entry k),
  )

  -- ---- and before gates

  scale : (z a b m : ℕ) → z ≤ 1 → a ≤ b + m → z * a ≤ z * b + m * z
  scale zero a b m small h = omega arith
  scale (suc zero) a b m small h = omega (arith, h)
  scale (suc (suc z)) a b m small h = absurd (omega (arith, small))

  before-entry : (k : ℕ) → k < length c.aig.gates
      → weight_before (first_gate c.aig + k) * (unit (nth_flow flows k).through + (nth_flow flows k).first_down + (nth_flow flows k).second_down)
      ≤ weight_before (first_gate c.aig + k) * (unit (nth_flow flows k).first_up + unit (nth_flow flows k).second_up) + slice_index came (length c.aig.latches + k) * weight_before (first_latch c.aig + (length c.aig.latches + k))
  before-entry k h =
      let there : first_gate c.aig + k ≡ first_latch c.aig + (length c.aig.latches + k) = omega arith in
      omega (
        arith,
        scale (weight_before (first_gate c.aig + k)) (unit (nth_flow flows k).through + (nth_flow flows k).first_down + (nth_flow flows k).second_down) (unit (nth_flow flows k).first_up + unit (nth_flow flows k).second_up)
            (slice_index came (length c.aig.latches + k)) (unit-le _) (balanced.before k h),
        ap (λ (v : ℕ). slice_index came (length c.aig.latches + k) * weight_before v) there,
      )

  abbrev before_goes : ℕ → ℕ
  before_goes k = weight_before (first_gate c.aig + k) * (unit (nth_flow flows k).through + (nth_flow flows k).first_down + (nth_flow flows k).second_down)

  abbrev before_comes : ℕ → ℕ
  before_comes k = weight_before (first_gate c.aig + k) * (unit (nth_flow flows k).first_up + unit (nth_flow flows k).second_up) + slice_index came (length c.aig.latches + k) * weight_before (first_latch c.aig + (length c.aig.latches + k))

  before-less : (d : ℕ) → sum_below (length c.aig.gates) before_goes + d ≤ sum_below (length c.aig.gates) before_comes
      → sum_below (length c.aig.gates) (λ k. weight_before (first_gate c.aig + k) * (unit (nth_flow flows k).through + (nth_flow flows k).first_down + (nth_flow flows k).second_down)) + d
      ≤ sum_below (length c.aig.gates) (λ k. weight_before (first_gate c.aig + k) * (unit (nth_flow flows k).first_up + unit (nth_flow flows k).second_up))
      + sum_below (length c.aig.gates) (λ k. downs weight_before (nth_gate c.aig k) (nth_flow flows k))
  before-less d h = omega (
    arith,
    h,
    tallies.downs weight_before,
    ap (λ (n : ℕ). sum_below n (λ p. slice_index came p * weight_before (first_latch c.aig + p))) tallies.long,
    sum-split (length c.aig.latches) (length c.aig.gates) (λ p. slice_index came p * weight_before (first_latch c.aig + p)),
    sum_below-add (length c.aig.gates) (λ k. weight_before (first_gate c.aig + k) * (unit (nth_flow flows k).first_up + unit (nth_flow flows k).second_up))
        (λ k. slice_index came (length c.aig.latches + k) * weight_before (first_latch c.aig + (length c.aig.latches + k))),
  )

  -- ---- all of it

  border-sum : sum_below (length c.aig.latches) (λ j. unit (borders c held r (first_latch c.aig + j))) + sum_below (length c.aig.gates) (λ k. unit (borders c held r (first_gate c.aig + k))) ≤ border_size (move_of c held r)
  unfolding borders
  border-sum = omega (
    arith,
    closed-border_size c held r set,
    count-sum (λ v. (is_known (latch_at c.aig v) || has r v) && (is_held c.aig held v || is_read_outside c.aig c.props (has r) v)) (first_gate c.aig) (length c.aig.gates),
    count-sum (λ v. (is_known (latch_at c.aig v) || has r v) && (is_held c.aig held v || is_read_outside c.aig c.props (has r) v)) (first_latch c.aig) (length c.aig.latches),
  )

  comes-sum : sum_below (length c.aig.gates) comes_at
      ≡ sum_below (length c.aig.gates) (λ k. unit (nth_flow flows k).through * weight_after (first_gate c.aig + k))
      + sum_below (length c.aig.gates) (λ k. weight_before (first_gate c.aig + k) * (unit (nth_flow flows k).first_up + unit (nth_flow flows k).second_up))
      + sum_below (length c.aig.gates) (λ k. downs weight_before (nth_gate c.aig k) (nth_flow flows k))
  comes-sum = omega (
    arith,
    sum_below-add (length c.aig.gates) (λ k. unit (nth_flow flows k).through * weight_after (first_gate c.aig + k) + weight_before (first_gate c.aig + k) * (unit (nth_flow flows k).first_up + unit (nth_flow flows k).second_up))
        (λ k. downs weight_before (nth_gate c.aig k) (nth_flow flows k)),
    sum_below-add (length c.aig.gates) (λ k. unit (nth_flow flows k).through * weight_after (first_gate c.aig + k))
        (λ k. weight_before (first_gate c.aig + k) * (unit (nth_flow flows k).first_up + unit (nth_flow flows k).second_up)),
  )

  goes-sum : sum_below (length c.aig.gates) goes_at
      ≡ sum_below (length c.aig.gates) (λ k. ups weight_after (nth_gate c.aig k) (nth_flow flows k))
      + sum_below (length c.aig.gates) (λ k. weight_before (first_gate c.aig + k) * (unit (nth_flow flows k).through + (nth_flow flows k).first_down + (nth_flow flows k).second_down))
      + sum_below (length c.aig.gates) (λ k. unit (borders c held r (first_gate c.aig + k)))
  goes-sum = omega (
    arith,
    sum_below-add (length c.aig.gates)
        (λ k. ups weight_after (nth_gate c.aig k) (nth_flow flows k) + weight_before (first_gate c.aig + k) * (unit (nth_flow flows k).through + (nth_flow flows k).first_down + (nth_flow flows k).second_down))
        (λ k. unit (borders c held r (first_gate c.aig + k))),
    sum_below-add (length c.aig.gates) (λ k. ups weight_after (nth_gate c.aig k) (nth_flow flows k))
        (λ k. weight_before (first_gate c.aig + k) * (unit (nth_flow flows k).through + (nth_flow flows k).first_down + (nth_flow flows k).second_down)),
  )

  -- if n fewer go on from after variables than come there, and m fewer from before gates
  total-less : (d e : ℕ) → sum_below (latches_and_gates c.aig) after_goes + d ≤ sum_below (latches_and_gates c.aig) after_comes → sum_below (length c.aig.gates) before_goes + e ≤ sum_below (length c.aig.gates) before_comes
      → arrivals c held flows went + sum_below (length c.aig.gates) goes_at + (d + e) ≤ border_size (move_of c held r) + sum_below (length c.aig.gates) comes_at
  total-less d e after before = omega (arith, after-less d after, before-less e before, border-sum, comes-sum, goes-sum)

  after-all : sum_below (latches_and_gates c.aig) after_goes + 0 ≤ sum_below (latches_and_gates c.aig) after_comes
  after-all = omega (arith, sum_below-le (latches_and_gates c.aig) after_goes after_comes after-entry)

  before-all : sum_below (length c.aig.gates) before_goes + 0 ≤ sum_below (length c.aig.gates) before_comes
  before-all = omega (arith, sum_below-le (length c.aig.gates) before_goes before_comes before-entry)

  total : arrivals c held flows went + sum_below (length c.aig.gates) goes_at ≤ border_size (move_of c held r) + sum_below (length c.aig.gates) comes_at
  total = omega (arith, total-less 0 0 after-all before-all)

  each-le : (k : ℕ) → k < length c.aig.gates → comes_at k ≤ goes_at k
  each-le k h = comes-le (unit (nth_flow flows k).through) (unit (nth_flow flows k).first_up) (unit (nth_flow flows k).second_up) (nth_flow flows k).first_down (nth_flow flows k).second_down (unit-le (nth_flow flows k).through)
      (weight_before (first_gate c.aig + k)) (weight_after (first_gate c.aig + k)) (unit (borders c held r (first_gate c.aig + k)))
      (weight_after (variable (nth_gate c.aig k).rhs1)) (weight_after (variable (nth_gate c.aig k).rhs0)) (weight_before (variable (nth_gate c.aig k).rhs1)) (weight_before (variable (nth_gate c.aig k).rhs0)) (split k h)

  -- no border is smaller than there are units that arrive
  pub arrivals-le : arrivals c held flows went ≤ border_size (move_of c held r)
  arrivals-le = omega (arith, total, sum_below-le (length c.aig.gates) comes_at goes_at each-le)

  -- if one is as small as that, as much goes on from far nodes at each gate as comes there
  pub full-at : border_size (move_of c held r) ≤ arrivals c held flows went → (k : ℕ) → k < length c.aig.gates → goes_at k ≤ comes_at k
  full-at least k h = omega (arith, least, total, rise-le (length c.aig.gates) k comes_at goes_at each-le h)

  -- there nothing is left on the far side: after no variable ..
  pub left_after-near : border_size (move_of c held r) ≤ arrivals c held flows went → (p : ℕ) → p < latches_and_gates c.aig → waits c held flows went p ≡ true → far_after c held r (first_latch c.aig + p) ≡ false
  left_after-near least p h left = false_from_ne_true (far_after c held r (first_latch c.aig + p)) (λ far.
      let parts = and_parts (not (is_observed c.aig c.props held (first_latch c.aig + p)) && comes_after c.aig flows p) (slice_index went p == 0) left in
      let first = and_parts (not (is_observed c.aig c.props held (first_latch c.aig + p))) (comes_after c.aig flows p) parts.0 in
      let stays : arrives c held flows went p ≡ false = ap (λ (b : Bool). (b && comes_after c.aig flows p) && (slice_index went p == 0)) (not-true (is_observed c.aig c.props held (first_latch c.aig + p)) first.0) in
      let goes : after_goes p ≡ 0 = omega (arith, ap (λ (n : ℕ). n * weight_after (first_latch c.aig + p)) (eqb-true (slice_index went p) 0 parts.1), unit-false _ stays) in
      let comes : after_comes p ≡ 1 = ap₂ (λ (n m : ℕ). n * m) (unit-true _ first.1) (unit-true _ far) in
      omega (
        arith,
        least,
        goes,
        comes,
        rise-le (latches_and_gates c.aig) p after_goes after_comes after-entry h,
        sum_below-le (length c.aig.gates) comes_at goes_at each-le,
        total-less 1 0 (omega (arith, goes, comes, rise-le (latches_and_gates c.aig) p after_goes after_comes after-entry h)) before-all,
      ))

  -- .. and before no gate
  pub left_before-near : border_size (move_of c held r) ≤ arrivals c held flows went → (k : ℕ) → k < length c.aig.gates → IsFuller (nth_flow flows k) (slice_index came (length c.aig.latches + k)) → far_before c r (first_gate c.aig + k) ≡ false
  left_before-near least k h left = false_from_ne_true (far_before c r (first_gate c.aig + k)) (λ far.
      let there : first_gate c.aig + k ≡ first_latch c.aig + (length c.aig.latches + k) = omega arith in
      let goes : before_goes k ≡ unit (nth_flow flows k).through + (nth_flow flows k).first_down + (nth_flow flows k).second_down = omega (arith, ap (λ (n : ℕ). n * (unit (nth_flow flows k).through + (nth_flow flows k).first_down + (nth_flow flows k).second_down)) (unit-true _ far)) in
      let comes : before_comes k ≡ unit (nth_flow flows k).first_up + unit (nth_flow flows k).second_up + slice_index came (length c.aig.latches + k) = omega (
        arith,
        ap (λ (n : ℕ). n * (unit (nth_flow flows k).first_up + unit (nth_flow flows k).second_up)) (unit-true _ far),
        ap (λ (n : ℕ). slice_index came (length c.aig.latches + k) * n) (ap weight_before (sym there) ∙ unit-true _ far),
      ) in
      omega (
        arith,
        least,
        sum_below-le (length c.aig.gates) comes_at goes_at each-le,
        total-less 0 1 after-all (omega (arith, left, goes, comes, rise-le (length c.aig.gates) k before_goes before_comes before-entry h)),
      ))
