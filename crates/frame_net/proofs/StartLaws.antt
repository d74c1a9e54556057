-- The start is a preflow with valid labels.
use Rattle.std.proofs.Common.{◌≡◌, ℕ, suc, zero, ◌+◌, ◌<◌, ◌≤◌, ◌==◌, cond, Bool, arith, refl, ap, ◌∙◌, inl, inr}
use Rattle.std.proofs.lemmas.Bool.{cases_eq, eq-eqb, ne_eqb}
use Rattle.frame_net.specs.Flow.{sum_below, IsPreflow, IsValid}
use Rattle.frame_net.specs.Laws.{started}
use Rattle.frame_net.proofs.SumLaws.{sum_below-add, sum_below-same}

-- what the tests at the source come to
pick_at : (v x y : ℕ) → v ≡ 0 → cond (v == 0) x y ≡ x
pick_at v x y e = ap (λ (b : Bool). cond b x y) (eq-eqb v 0 e)

pick_off : (v x y : ℕ) → (v ≡ 0 → ⊥) → cond (v == 0) x y ≡ y
pick_off v x y e = ap (λ (b : Bool). cond b x y) (ne_eqb v 0 e)

res_from : (n : ℕ) (cap : ℕ → ℕ → ℕ) (v w : ℕ) → v ≡ 0 → (started n cap).res v w ≡ 0
res_from n cap v w e = pick_at v 0 (cond (w == 0) (cap v w + cap w v) (cap v w)) e

res_to : (n : ℕ) (cap : ℕ → ℕ → ℕ) (v w : ℕ) → (v ≡ 0 → ⊥) → w ≡ 0 → (started n cap).res v w ≡ cap v w + cap w v
res_to n cap v w d e = pick_off v 0 (cond (w == 0) (cap v w + cap w v) (cap v w)) d ∙ pick_at w (cap v w + cap w v) (cap v w) e

res_else : (n : ℕ) (cap : ℕ → ℕ → ℕ) (v w : ℕ) → (v ≡ 0 → ⊥) → (w ≡ 0 → ⊥) → (started n cap).res v w ≡ cap v w
res_else n cap v w d e = pick_off v 0 (cond (w == 0) (cap v w + cap w v) (cap v w)) d ∙ pick_off w (cap v w + cap w v) (cap v w) e

sum_at_zero : (n : ℕ) (g : ℕ → ℕ) → 0 < n → sum_below n (λ w. cond (w == 0) (g w) 0) ≡ g 0
sum_at_zero zero g h = absurd (omega arith)
sum_at_zero (suc n) g h = elim (cases_eq n 0) [
  | inl first ↦ let none : sum_below n (λ w. cond (w == 0) (g w) 0) ≡ 0 = ap (λ (m : ℕ). sum_below m (λ w. cond (w == 0) (g w) 0)) first in
      omega (arith, none, pick_at n (g n) 0 first, ap g first)
  | inr later ↦ omega (arith, sum_at_zero n g (omega (arith, later)), pick_off n (g n) 0 later)
]

-- the start of a flow is a preflow with valid labels
pub start_sound : (n : ℕ) (cap : ℕ → ℕ → ℕ) → 1 < n → cap 0 0 ≡ 0 → IsPreflow n cap (started n cap) × IsValid n (started n cap)
start_sound n cap two loop = (
  record { paired = paired; conserved = conserved },
  record { source = pick_at 0 n 0 refl; sink = pick_off 1 n 0 (λ e. omega arith); small = small; steps = steps },
)
  where
    paired : (v w : ℕ) → v < n → w < n → (started n cap).res v w + (started n cap).res w v ≡ cap v w + cap w v
    paired v w a b = elim (cases_eq v 0) [
      | inl ev ↦ elim (cases_eq w 0) [
        | inl ew ↦
            let none : cap v w ≡ 0 = ap (λ (x : ℕ). cap x w) ev ∙ (ap (λ (x : ℕ). cap 0 x) ew ∙ loop) in
            let also : cap w v ≡ 0 = ap (λ (x : ℕ). cap x v) ew ∙ (ap (λ (x : ℕ). cap 0 x) ev ∙ loop) in
            omega (arith, res_from n cap v w ev, res_from n cap w v ew, none, also)
        | inr dw ↦ omega (arith, res_from n cap v w ev, res_to n cap w v dw ev)
      ]
      | inr dv ↦ elim (cases_eq w 0) [
        | inl ew ↦ omega (arith, res_to n cap v w dv ew, res_from n cap w v ew)
        | inr dw ↦ omega (arith, res_else n cap v w dv dw, res_else n cap w v dw dv)
      ]
    ]

    conserved : (v : ℕ) → 0 < v → v < n → (started n cap).excess v + sum_below n (cap v) ≡ sum_below n ((started n cap).res v)
    conserved v pos a =
        let dv : v ≡ 0 → ⊥ = λ e. omega arith in
        let each : sum_below n ((started n cap).res v) ≡ sum_below n (λ w. cap v w + cond (w == 0) (cap w v) 0) =
        sum_below-same n ((started n cap).res v) (λ w. cap v w + cond (w == 0) (cap w v) 0) (λ w l. elim (cases_eq w 0) [
          | inl ew ↦ omega (arith, res_to n cap v w dv ew, pick_at w (cap w v) 0 ew)
          | inr dw ↦ omega (arith, res_else n cap v w dv dw, pick_off w (cap w v) 0 dw)
        ]) in
        omega (arith, each, sum_below-add n (cap v) (λ w. cond (w == 0) (cap w v) 0), sum_at_zero n (λ w. cap w v) (omega arith), pick_off v 0 (cap 0 v) dv)

    small : (v : ℕ) → v < n → (started n cap).label v ≤ n
    small v a = elim (cases_eq v 0) [ inl e ↦ omega (arith, pick_at v n 0 e) | inr d ↦ omega (arith, pick_off v n 0 d) ]

    steps : (v w : ℕ) → v < n → w < n → 0 < (started n cap).res v w → (started n cap).label v ≤ (started n cap).label w + 1
    steps v w a b r = elim (cases_eq v 0) [
      | inl e ↦ absurd (omega (arith, res_from n cap v w e, r))
      | inr d ↦ omega (arith, pick_off v n 0 d)
    ]
