-- The potential falls in each pulse that leaves a node active.
use Rattle.std.proofs.Common.{◌≡◌, ℕ, ◌+◌, ◌-◌, ◌*◌, ◌<◌, ◌≤◌, cond, true, false, arith, refl, sym, ◌∙◌, inl, inr, ◌⊎◌}
use Rattle.std.proofs.lemmas.Bool.{cases_lt, cases_Bool, false≢true}
use Rattle.frame_net.specs.Flow.{State, sum_below, push, outflow, inflow, is_active, has_excess_left, next_label, pulse, IsValid, greatest_active_label, potential}
use Rattle.frame_net.proofs.SumLaws.{some_term, le-greatest_below, greatest_below-le, sum_below-le_const, rise-le, sum_below-le}
use Rattle.frame_net.proofs.PushLaws.{Sends, Active, active, is_active-true, sends}
use Rattle.frame_net.proofs.PulseLaws.{Stuck, stuck, next_label-ge, next_label-le, stuck-rises, is_stuck-true}

-- an active node's label is at most the top
pub active-le-top : (n : ℕ) (s : State) (v : ℕ) → v < n → is_active n s v ≡ true → s.label v ≤ greatest_active_label n s
active-le-top n s v a on =
    let l : cond (is_active n s v) (s.label v) 0 ≤ greatest_active_label n s = le-greatest_below n v (λ x. cond (is_active n s x) (s.label x) 0) a in
    rw on at l

-- a node that gets something is below the top
inflow-below_greatest : (n : ℕ) (s : State) (w : ℕ) → 0 < inflow n s w → s.label w < greatest_active_label n s
inflow-below_greatest n s w h =
    let t = some_term n (λ v. push n s v w) h in
    let d : Sends n s t.0 w = sends n s t.0 w t.1.1 in
    omega (arith, d.down, active-le-top n s t.0 t.1.0 (is_active-true n s t.0 d.inner d.has_excess d.below))

-- an inactive node is not stuck
stays : (n : ℕ) (s : State) (w : ℕ) → is_active n s w ≡ false → next_label n s w ≡ s.label w
stays n s w off = elim (cases_Bool (has_excess_left n s w)) [
  | inl t ↦ let st : Stuck n s w = stuck n s w t in absurd (false≢true (sym off ∙ st.is_on))
  | inr f ↦ rw f refl
]

-- an active node of the next state lies below the top, or had been active and rose
later_active : (n : ℕ) (s : State) → IsValid n s → (w : ℕ) → w < n → is_active n (pulse n s) w ≡ true
    → ((next_label n s w ≡ s.label w) × (s.label w < greatest_active_label n s)) ⊎ ((s.label w ≤ greatest_active_label n s) × (has_excess_left n s w ≡ true))
later_active n s ok w a on =
    let late : Active n (pulse n s) w = active n (pulse n s) w on in
    elim (cases_Bool (is_active n s w)) [
      | inl was ↦ elim (cases_Bool (has_excess_left n s w)) [
        | inl t ↦ inr (active-le-top n s w a was, t)
        | inr f ↦
            let all : s.excess w ≤ outflow n s w = elim (cases_lt (outflow n s w) (s.excess w)) [ inl lt ↦ absurd (false≢true (sym f ∙ is_stuck-true n s w was lt)) | inr ge ↦ ge ] in
            inl (rw f refl, inflow-below_greatest n s w (omega (arith, late.has_excess)))
      ]
      | inr off ↦
          let same : next_label n s w ≡ s.label w = stays n s w off in
          let empty : s.excess w ≡ 0 = elim (cases_lt 0 (s.excess w)) [
            | inl p ↦ absurd (false≢true (sym off ∙ is_active-true n s w late.inner p (omega (arith, same, late.below))))
            | inr z ↦ omega arith
          ] in
          inl (same, inflow-below_greatest n s w (omega (arith, empty, late.has_excess)))
    ]

top_with_rise : (n : ℕ) (s : State) → IsValid n s → greatest_active_label n (pulse n s) + sum_below n s.label ≤ greatest_active_label n s + sum_below n (next_label n s)
top_with_rise n s ok =
    let up : sum_below n s.label ≤ sum_below n (next_label n s) = sum_below-le n s.label (next_label n s) (next_label-ge n s ok) in
    let bound : greatest_active_label n (pulse n s) ≤ (greatest_active_label n s + sum_below n (next_label n s)) - sum_below n s.label =
    greatest_below-le n (λ x. cond (is_active n (pulse n s) x) (next_label n s x) 0) ((greatest_active_label n s + sum_below n (next_label n s)) - sum_below n s.label)
    (λ w a. elim (cases_Bool (is_active n (pulse n s) w)) [
      | inr f ↦ rw f (omega arith)
      | inl t ↦ rw t (elim (later_active n s ok w a t) [
        | inl p ↦ omega (arith, p.0, p.1, up)
        | inr q ↦ omega (arith, q.0, up, rise-le n w s.label (next_label n s) (next_label-ge n s ok) a)
      ])
    ]) in
    omega (arith, bound, up)

top_falls : (n : ℕ) (s : State) → IsValid n s → sum_below n (next_label n s) ≡ sum_below n s.label → (w : ℕ) → w < n → is_active n (pulse n s) w ≡ true → greatest_active_label n (pulse n s) < greatest_active_label n s
top_falls n s ok same w a on =
    let low : (v : ℕ) → v < n → is_active n (pulse n s) v ≡ true → next_label n s v < greatest_active_label n s =
    λ v b t. elim (later_active n s ok v b t) [
      | inl p ↦ omega (arith, p.0, p.1)
      | inr q ↦ absurd (omega (arith, stuck-rises n s ok v b q.1, rise-le n v s.label (next_label n s) (next_label-ge n s ok) b))
    ] in
    let bound : greatest_active_label n (pulse n s) ≤ greatest_active_label n s - 1 =
    greatest_below-le n (λ x. cond (is_active n (pulse n s) x) (next_label n s x) 0) (greatest_active_label n s - 1)
    (λ v b. elim (cases_Bool (is_active n (pulse n s) v)) [
      | inr f ↦ rw f (omega arith)
      | inl t ↦ rw t (omega (arith, low v b t))
    ]) in
    omega (arith, bound, low w a on)

-- if a node is active after a pulse, the potential has fallen
pub potential_falls : (n : ℕ) (s : State) → IsValid n s → (w : ℕ) → w < n → is_active n (pulse n s) w ≡ true → potential n (pulse n s) < potential n s
potential_falls n s ok w a on =
    let cap : sum_below n (next_label n s) ≤ n * n = sum_below-le_const n n (next_label n s) (next_label-le n s ok) in
    let up : sum_below n s.label ≤ sum_below n (next_label n s) = sum_below-le n s.label (next_label n s) (next_label-ge n s ok) in
    elim (cases_lt (sum_below n s.label) (sum_below n (next_label n s))) [
      | inl rise ↦ omega (arith, top_with_rise n s ok, cap, rise)
      | inr flat ↦ omega (arith, top_falls n s ok (omega arith) w a on, cap, up)
    ]
