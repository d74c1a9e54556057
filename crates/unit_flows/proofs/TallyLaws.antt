-- What tables of tallies weigh, as units are added.
use Rattle.std.proofs.Common.{◌≡◌, ℕ, suc, zero, ◌+◌, ◌-◌, ◌*◌, ◌<◌, ◌≤◌, List, length, slice_index, slice_set, replicate, arith, ap, sym, ◌∙◌, subst, inl, inr}
use Rattle.std.proofs.Math.ListN.{length-set}
use Rattle.std.proofs.lemmas.Bool.{cases_eq}
use Rattle.std.proofs.lemmas.List.{get_or-set_same, get_or-set_other, get_or-replicate, length-replicate}
use Rattle.frame_net.specs.Flow.{sum_below}
use Rattle.frame_net.proofs.SumLaws.{sum_below-same, sum_below-zero}
use Rattle.aig_graph.specs.declared.graph.Gate.{Gate}
use Rattle.aig_graph.specs.Graph.{Graph, first_latch, latches_and_gates}
use Rattle.unit_flows.specs.declared.gate_flow.GateFlow.{GateFlow}
use Rattle.unit_flows.specs.Units.{nth_gate, nth_flow, ups, downs, weigh, AreTallies}

-- one term more
sum-change : (n p : ℕ) (f g : ℕ → ℕ) (d : ℕ) → p < n → ((i : ℕ) → i < n → (i ≡ p → ⊥) → g i ≡ f i) → g p ≡ f p + d → sum_below n g ≡ sum_below n f + d
sum-change zero p f g d h others here = absurd (omega (arith, h))
sum-change (suc n) p f g d h others here = elim (cases_eq n p) [
  | inl same ↦ (
      let last : g n ≡ f n + d = subst (λ (i : ℕ). g i ≡ f i + d) (sym same) here in
      omega (arith, last, sum_below-same n g f (λ i l. others i (omega (arith, l)) (λ e. omega (arith, e, l, same)))))
  | inr other ↦ omega (arith, others n (omega arith) other, sum-change n p f g d (omega (arith, h, other)) (λ i l e. others i (omega (arith, l)) e) here)
]

mul-split : (x y w : ℕ) → (x + y) * w ≡ x * w + y * w
mul-split x y w = omega arith

-- units that are added to an entry weigh as much more as that entry's variable weighs each
pub weigh-set : (first : ℕ) (xs : List ℕ) (p units : ℕ) (weight : ℕ → ℕ) → p < length xs
    → weigh first (slice_set xs p (slice_index xs p + units)) weight ≡ weigh first xs weight + units * weight (first + p)
weigh-set first xs p units weight h =
    let ys : List ℕ = slice_set xs p (slice_index xs p + units) in
    ap (λ (n : ℕ). sum_below n (λ i. slice_index ys i * weight (first + i))) (length-set xs p (slice_index xs p + units))
    ∙ sum-change (length xs) p (λ i. slice_index xs i * weight (first + i)) (λ i. slice_index ys i * weight (first + i)) (units * weight (first + p)) h
    (λ i l other. ap (λ (x : ℕ). x * weight (first + i)) (get_or-set_other xs p i (slice_index xs p + units) 0 other))
    (ap (λ (x : ℕ). x * weight (first + p)) (get_or-set_same xs p (slice_index xs p + units) 0 h) ∙ mul-split (slice_index xs p) units (weight (first + p)))

-- weighed, of a variable's entry
pub weigh-add : (first var units : ℕ) (xs ys : List ℕ) (weight : ℕ → ℕ) → first ≤ var → var - first < length xs → ys ≡ slice_set xs (var - first) (slice_index xs (var - first) + units)
    → weigh first ys weight ≡ weigh first xs weight + units * weight var
weigh-add first var units xs ys weight low h made =
    let place : first + (var - first) ≡ var = omega arith in
    ap (λ (zs : List ℕ). weigh first zs weight) made ∙ weigh-set first xs (var - first) units weight h
    ∙ ap (λ (v : ℕ). weigh first xs weight + units * weight v) place

-- zeros weigh nothing
pub weigh-zeros : (first n : ℕ) (xs : List ℕ) (weight : ℕ → ℕ) → xs ≡ replicate n 0 → weigh first xs weight ≡ 0
weigh-zeros first n xs weight zeros =
    let same : length xs ≡ n = ap length zeros ∙ length-replicate n 0 in
    sum_below-same (length xs) (λ p. slice_index xs p * weight (first + p)) (λ p. 0) (λ p h.
    ap (λ (ys : List ℕ). slice_index ys p * weight (first + p)) zeros ∙ ap (λ (x : ℕ). x * weight (first + p)) (get_or-replicate n p 0 0 (omega (arith, h, same))) ∙ none (weight (first + p)))
    ∙ sum_below-zero (length xs)
  where
    none : (w : ℕ) → 0 * w ≡ 0
    none w = omega arith

-- tables of zeros are the tallies of no gates
pub tallies-none : (g : Graph) (flows : List GateFlow) (went came : List ℕ) → went ≡ replicate (latches_and_gates g) 0 → came ≡ replicate (latches_and_gates g) 0 → AreTallies g flows 0 went came
tallies-none g flows went came none none' = record {
  as_long = ap length none ∙ length-replicate (latches_and_gates g) 0;
  long = ap length none' ∙ length-replicate (latches_and_gates g) 0;
  ups = λ weight. weigh-zeros (first_latch g) (latches_and_gates g) went weight none;
  downs = λ weight. weigh-zeros (first_latch g) (latches_and_gates g) came weight none';
}

-- one gate more
pub tallies-more : (g : Graph) (flows : List GateFlow) (n first : ℕ) (went came went' came' : List ℕ) (gate : Gate) (flow : GateFlow) → first ≡ first_latch g → gate ≡ nth_gate g n → flow ≡ nth_flow flows n
    → AreTallies g flows n went came → length went' ≡ length went → length came' ≡ length came
    → ((weight : ℕ → ℕ) → weigh first went' weight ≡ weigh first went weight + ups weight gate flow)
    → ((weight : ℕ → ℕ) → weigh first came' weight ≡ weigh first came weight + downs weight gate flow) → AreTallies g flows (n + 1) went' came'
tallies-more g flows n first went came went' came' gate flow at gate-is flow-is before long long' more more' =
    let next : n + 1 ≡ suc n = omega arith in
    record {
      as_long = long ∙ before.as_long;
      long = long' ∙ before.long;
      ups = λ weight.
          ap (λ (f : ℕ). weigh f went' weight) (sym at) ∙ more weight ∙ ap (λ (f : ℕ). weigh f went weight + ups weight gate flow) at
          ∙ ap (λ (m : ℕ). m + ups weight gate flow) (before.ups weight) ∙ ap (λ (x : Gate). sum_below n (λ k. ups weight (nth_gate g k) (nth_flow flows k)) + ups weight x flow) gate-is
          ∙ ap (λ (y : GateFlow). sum_below n (λ k. ups weight (nth_gate g k) (nth_flow flows k)) + ups weight (nth_gate g n) y) flow-is
          ∙ ap (λ (m : ℕ). sum_below m (λ k. ups weight (nth_gate g k) (nth_flow flows k))) (sym next);
      downs = λ weight.
          ap (λ (f : ℕ). weigh f came' weight) (sym at) ∙ more' weight ∙ ap (λ (f : ℕ). weigh f came weight + downs weight gate flow) at
          ∙ ap (λ (m : ℕ). m + downs weight gate flow) (before.downs weight) ∙ ap (λ (x : Gate). sum_below n (λ k. downs weight (nth_gate g k) (nth_flow flows k)) + downs weight x flow) gate-is
          ∙ ap (λ (y : GateFlow). sum_below n (λ k. downs weight (nth_gate g k) (nth_flow flows k)) + downs weight (nth_gate g n) y) flow-is
          ∙ ap (λ (m : ℕ). sum_below m (λ k. downs weight (nth_gate g k) (nth_flow flows k))) (sym next);
    }
