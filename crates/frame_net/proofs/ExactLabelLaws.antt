-- Exact labels are valid, and no smaller than valid ones.
use Rattle.std.proofs.Common.{◌≡◌, ℕ, suc, zero, ◌+◌, ◌-◌, ◌*◌, ◌<◌, ◌≤◌, cond, true, arith, refl, ap, inl, inr}
use Rattle.std.proofs.lemmas.Bool.{cases_lt, cases_Bool}
use Rattle.frame_net.specs.Flow.{State, sum_below, is_active, IsValid, Walk, greatest_active_label, potential}
use Rattle.frame_net.specs.Laws.{IsDistance}
use Rattle.frame_net.proofs.SumLaws.{greatest_below-le, sum_below-le, rise-le, sum_below-le_const}
use Rattle.frame_net.proofs.PushLaws.{Active, active, is_active-true}
use Rattle.frame_net.proofs.PotentialLaws.{active-le-top}

-- a label is at most the length of any walk to the sink
label-le-walk : (n : ℕ) (s : State) → IsValid n s → (k v : ℕ) → v < n → Walk n s k v → s.label v ≤ k
label-le-walk n s ok zero v h e = omega (arith, ap s.label e, ok.sink)
label-le-walk n s ok (suc k) v h walk = omega (arith, ok.steps v walk.0 h walk.1.0 walk.1.1.0, label-le-walk n s ok k walk.0 walk.1.0 walk.1.1.1)

-- a valid label is at most the residual distance to the sink
pub exact-rises : (n : ℕ) (s : State) (d : ℕ → ℕ) → IsValid n s → IsDistance n s d → (v : ℕ) → v < n → s.label v ≤ d v
exact-rises n s d ok e v h = elim (cases_lt (d v) n) [
  | inl near ↦ label-le-walk n s ok (d v) v h (e.walk v h near)
  | inr far ↦ omega (arith, ok.small v h, far)
]

-- the residual distances to the sink are valid labels
pub exact-valid : (n : ℕ) (s : State) (d : ℕ → ℕ) → 1 < n → IsValid n s → IsDistance n s d → IsValid n (record s { label = d })
exact-valid n s d big ok e = record {
  source = omega (arith, exact-rises n s d ok e 0 (omega arith), ok.source, e.small 0 (omega arith));
  sink = omega (arith, e.least 1 0 big refl);
  small = e.small;
  steps = λ v w h k r. elim (cases_lt (d w) n) [
    | inl near ↦ omega (arith, e.least v (suc (d w)) h (w, (k, (r, e.walk w k near))))
    | inr far ↦ omega (arith, e.small v h)
  ];
}

-- with the residual distances as labels the potential is no greater than with valid ones
pub exact-potential : (n : ℕ) (s : State) (d : ℕ → ℕ) → IsValid n s → IsDistance n s d → potential n (record s { label = d }) ≤ potential n s
exact-potential n s d ok e =
    let up : sum_below n s.label ≤ sum_below n d = sum_below-le n s.label d (exact-rises n s d ok e) in
    let full : sum_below n d ≤ n * n = sum_below-le_const n n d e.small in
    let bound : greatest_active_label n (record s { label = d }) ≤ (greatest_active_label n s + sum_below n d) - sum_below n s.label =
    greatest_below-le n (λ v. cond (is_active n (record s { label = d }) v) (d v) 0) ((greatest_active_label n s + sum_below n d) - sum_below n s.label)
    (λ v h. elim (cases_Bool (is_active n (record s { label = d }) v)) [
      | inr f ↦ rw f (omega arith)
      | inl t ↦ rw t (
          let a : Active n (record s { label = d }) v = active n (record s { label = d }) v t in
          let was : is_active n s v ≡ true = is_active-true n s v a.inner a.has_excess (omega (arith, a.below, exact-rises n s d ok e v h)) in
          omega (arith, active-le-top n s v h was, rise-le n v s.label d (exact-rises n s d ok e) h, up))
    ]) in
    omega (arith, bound, up, full)
