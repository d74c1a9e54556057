-- A pulse loses no excess.
use Rattle.std.proofs.Common.{◌≡◌, ℕ, ◌+◌, ◌<◌, ◌≤◌, arith, inl, inr}
use Rattle.std.proofs.lemmas.Bool.{cases_lt}
use Rattle.frame_net.specs.Flow.{State, sum_below, push, outflow, inflow, next_excess, IsValid}
use Rattle.frame_net.proofs.SumLaws.{sum_below-add, sum_below-same, sum_below-swap, some_term, term-le-sum_below}
use Rattle.frame_net.proofs.PushLaws.{Sends, sends, outflow-le-excess}

-- nothing goes back to the source
pub inflow_source : (n : ℕ) (s : State) → IsValid n s → inflow n s 0 ≡ 0
inflow_source n s ok = elim (cases_lt 0 (inflow n s 0)) [
  | inr z ↦ omega arith
  | inl pos ↦
      let t = some_term n (λ v. push n s v 0) pos in
      let d : Sends n s t.0 0 = sends n s t.0 0 t.1.1 in
      absurd (omega (arith, d.down, d.below, ok.source))
]

-- the excess of all nodes together stays
pub total_kept : (n : ℕ) (s : State) → sum_below n (next_excess n s) ≡ sum_below n s.excess
total_kept n s =
    let each : sum_below n (λ v. next_excess n s v + outflow n s v) ≡ sum_below n (λ v. s.excess v + inflow n s v) =
    sum_below-same n (λ v. next_excess n s v + outflow n s v) (λ v. s.excess v + inflow n s v) (λ v h. one v) in
    omega (arith, each, sum_below-add n (next_excess n s) (outflow n s), sum_below-add n s.excess (inflow n s), sum_below-swap n n (push n s))
  where
    one : (v : ℕ) → next_excess n s v + outflow n s v ≡ s.excess v + inflow n s v
    one v = omega (arith, outflow-le-excess n s v)

-- what a node has and gets is at most what all nodes have and what it gives
pub excess-le-total : (n : ℕ) (s : State) (v : ℕ) → v < n → s.excess v + inflow n s v ≤ sum_below n s.excess + outflow n s v
excess-le-total n s v h =
    let l : next_excess n s v ≤ sum_below n (next_excess n s) = term-le-sum_below n v (next_excess n s) h in
    omega (arith, l, total_kept n s, outflow-le-excess n s v)
