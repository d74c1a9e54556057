-- A pulse keeps a preflow with valid labels.
use Rattle.std.proofs.Common.{◌≡◌, ℕ, ◌+◌, ◌<◌, ◌≤◌, nat_lt, cond, true, arith, refl, ◌∙◌, inl, inr}
use Rattle.std.proofs.lemmas.Bool.{cases_lt, cases_Bool, and_parts, ltb-true, lt-ltb, and_from}
use Rattle.frame_net.specs.Flow.{State, sum_below, push, outflow, is_active, next_res, has_excess_left, relabelled, next_label, next_excess, pulse, IsPreflow, IsValid}
use Rattle.frame_net.proofs.SumLaws.{sum_below-add, sum_below-same, least_below-le, least_below-le_start, lt-least_below}
use Rattle.frame_net.proofs.PushLaws.{Sends, Active, active, sends, push-le-res, push-is_admissible, room-is_res, outflow-le-excess}

-- ---- the preflow stays one

next_res-sum : (n : ℕ) (s : State) (v w : ℕ) → next_res n s v w + push n s v w ≡ s.res v w + push n s w v
next_res-sum n s v w = omega (arith, push-le-res n s v w)

next_paired : (n : ℕ) (s : State) (v w c : ℕ) → s.res v w + s.res w v ≡ c → next_res n s v w + next_res n s w v ≡ c
next_paired n s v w c e = omega (arith, push-le-res n s v w, push-le-res n s w v)

next_conserved : (n : ℕ) (s : State) (v c : ℕ) → s.excess v + c ≡ sum_below n (s.res v) → next_excess n s v + c ≡ sum_below n (next_res n s v)
next_conserved n s v c e =
    let a : sum_below n (λ w. next_res n s v w + push n s v w) ≡ sum_below n (λ w. s.res v w + push n s w v) = sum_below-same n (λ w. next_res n s v w + push n s v w) (λ w. s.res v w + push n s w v) (λ w h. next_res-sum n s v w) in
    omega (arith, a, sum_below-add n (next_res n s v) (push n s v), sum_below-add n (s.res v) (λ w. push n s w v), outflow-le-excess n s v)

-- a pulse keeps a preflow one
pub next_preflow : (n : ℕ) (cap : ℕ → ℕ → ℕ) (s : State) → IsPreflow n cap s → IsPreflow n cap (pulse n s)
next_preflow n cap s p = record {
  paired = λ v w a b. next_paired n s v w (cap v w + cap w v) (p.paired v w a b);
  conserved = λ v a b. next_conserved n s v (sum_below n (cap v)) (p.conserved v a b);
}

-- ---- labels stay valid

pub record Stuck (n : ℕ) (s : State) (v : ℕ) : Type 0 where
  -- the node is active
  pub is_on : is_active n s v ≡ true
  -- its pushes sum to less than its excess
  pub keeps : outflow n s v < s.excess v

-- a node that keeps some of its excess is active, and its pushes sum to less than it
pub stuck : (n : ℕ) (s : State) (v : ℕ) → has_excess_left n s v ≡ true → Stuck n s v
stuck n s v e = let p = and_parts (is_active n s v) (nat_lt (outflow n s v) (s.excess v)) e in
    record { is_on = p.0; keeps = ltb-true (outflow n s v) (s.excess v) p.1 }

-- after delivery a stuck node has residual only to heads that aren't below it
head_of_stuck : (n : ℕ) (s : State) → IsValid n s → (v w : ℕ) → v < n → w < n → Stuck n s v → 0 < next_res n s v w → s.label v ≤ s.label w
head_of_stuck n s ok v w a b st r = elim (cases_lt (s.label w) (s.label v)) [
  | inr ge ↦ ge
  | inl lt ↦ elim (cases_lt 0 (push n s w v)) [
    | inl back ↦ let t : Sends n s w v = sends n s w v back in absurd (omega (arith, t.down))
    | inr none ↦
        let had : 0 < s.res v w = omega (arith, push-le-res n s v w) in
        let down : s.label w + 1 ≡ s.label v = omega (arith, ok.steps v w a b had) in
        absurd (omega (arith, push-is_admissible n s v w b st.keeps, room-is_res n s v w st.is_on down))
  ]
]

-- a stuck node rises, and not above n
lifted-rises : (n : ℕ) (s : State) → IsValid n s → (v : ℕ) → v < n → Stuck n s v → s.label v < relabelled n s v
lifted-rises n s ok v a st =
    let on : Active n s v = active n s v st.is_on in
    lt-least_below n (λ w. cond (nat_lt 0 (next_res n s v w)) (s.label w + 1) n) n (s.label v) on.below
    (λ w b. elim (cases_Bool (nat_lt 0 (next_res n s v w))) [
      | inl t ↦ rw t (omega (arith, head_of_stuck n s ok v w a b st (ltb-true 0 (next_res n s v w) t)))
      | inr f ↦ rw f on.below
    ])

lifted-le-head : (n : ℕ) (s : State) (v w : ℕ) → w < n → 0 < next_res n s v w → relabelled n s v ≤ s.label w + 1
lifted-le-head n s v w b r =
    let t : nat_lt 0 (next_res n s v w) ≡ true = lt-ltb 0 (next_res n s v w) r in
    let l : relabelled n s v ≤ cond (nat_lt 0 (next_res n s v w)) (s.label w + 1) n = least_below-le n w (λ x. cond (nat_lt 0 (next_res n s v x)) (s.label x + 1) n) n b in
    rw t at l

-- no label falls in a pulse
pub next_label-ge : (n : ℕ) (s : State) → IsValid n s → (v : ℕ) → v < n → s.label v ≤ next_label n s v
next_label-ge n s ok v a = elim (cases_Bool (has_excess_left n s v)) [
  | inl t ↦ rw t (omega (arith, lifted-rises n s ok v a (stuck n s v t)))
  | inr f ↦ rw f (omega arith)
]

-- no label rises above the number of nodes in a pulse
pub next_label-le : (n : ℕ) (s : State) → IsValid n s → (v : ℕ) → v < n → next_label n s v ≤ n
next_label-le n s ok v a = elim (cases_Bool (has_excess_left n s v)) [
  | inl t ↦ rw t (least_below-le_start n (λ w. cond (nat_lt 0 (next_res n s v w)) (s.label w + 1) n) n)
  | inr f ↦ rw f (ok.small v a)
]

-- an active node whose pushes sum to less than its excess keeps some of it
pub is_stuck-true : (n : ℕ) (s : State) (v : ℕ) → is_active n s v ≡ true → outflow n s v < s.excess v → has_excess_left n s v ≡ true
is_stuck-true n s v on k = and_from (is_active n s v) (nat_lt (outflow n s v) (s.excess v)) on (lt-ltb (outflow n s v) (s.excess v) k)

-- the label of a node that keeps some of its excess rises
pub stuck-rises : (n : ℕ) (s : State) → IsValid n s → (v : ℕ) → v < n → has_excess_left n s v ≡ true → s.label v < next_label n s v
stuck-rises n s ok v a t = rw t (lifted-rises n s ok v a (stuck n s v t))

next_step : (n : ℕ) (s : State) → IsValid n s → (v w : ℕ) → v < n → w < n → 0 < next_res n s v w → next_label n s v ≤ next_label n s w + 1
next_step n s ok v w a b r =
    let up = next_label-ge n s ok w b in
    elim (cases_Bool (has_excess_left n s v)) [
      | inl t ↦ let l = lifted-le-head n s v w b r in rw t (omega (arith, l, up))
      | inr f ↦ rw f (elim (cases_lt 0 (push n s w v)) [
        | inl back ↦ let t : Sends n s w v = sends n s w v back in omega (arith, t.down, up)
        | inr none ↦
            let had : 0 < s.res v w = omega (arith, push-le-res n s v w) in
            omega (arith, ok.steps v w a b had, up)
      ])
    ]

-- the source and the sink are never stuck
end_stays : (n : ℕ) (s : State) (v : ℕ) → v ≤ 1 → next_label n s v ≡ s.label v
end_stays n s v h = elim (cases_Bool (has_excess_left n s v)) [
  | inl t ↦ let st : Stuck n s v = stuck n s v t in let on : Active n s v = active n s v st.is_on in absurd (omega (arith, on.inner))
  | inr f ↦ rw f refl
]

-- a pulse keeps the labels valid
pub next_valid : (n : ℕ) (s : State) → IsValid n s → IsValid n (pulse n s)
next_valid n s ok = record {
  source = end_stays n s 0 (omega arith) ∙ ok.source;
  sink = end_stays n s 1 (omega arith) ∙ ok.sink;
  small = next_label-le n s ok;
  steps = next_step n s ok;
}
