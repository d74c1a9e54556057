-- Counts of the numbers that pass.
use Rattle.std.proofs.Common.{ℕ, ◌+◌, ◌-◌, ◌<◌, ◌≤◌, ◌≡◌, inl, inr, suc, zero, List, [], map, count_by, Bool, true, false, ◌&&◌, ◌||◌, not, cond, refl, arith, ap, sym, ◌∙◌}
use Rattle.std.proofs.lemmas.Bool.{cases_Bool, cases_eq, and_from, and_left, and_right, or_left, or_right, or_from}
use Rattle.std.proofs.lemmas.List.{map_push}
use Rattle.std.proofs.lemmas.List.Sums.{sum_by_push}
use Rattle.aig_graph.specs.Counting.{count_below, places}
use Rattle.aig_graph.proofs.PlacesLaws.{places-pass, places-fail, places-zero, count-pass, count-fail, count-zero}

-- tests that agree below n count as many numbers there
pub count_below-same : (p q : ℕ → Bool) (n : ℕ) → ((v : ℕ) → v < n → p v ≡ q v) → count_below p n ≡ count_below q n
unfolding count_below
count_below-same p q zero same = refl
count_below-same p q (suc n) same =
    let here : p n ≡ q n = same n (omega arith) in
    let before : count_below p n ≡ count_below q n = count_below-same p q n (λ v h. same v (omega arith)) in
    rw (here, before)

-- if each number below n that passes one test passes another, the other counts no fewer
pub count-within : (p q : ℕ → Bool) (n : ℕ) → ((v : ℕ) → v < n → p v ≡ true → q v ≡ true) → count_below p n ≤ count_below q n
count-within p q zero within = omega (arith, count-zero p, count-zero q)
count-within p q (suc n) within =
    let before : count_below p n ≤ count_below q n = count-within p q n (λ v h. within v (omega arith)) in
    elim (cases_Bool (p n)) [
      | inl passes ↦ omega (arith, count-pass p n passes, count-pass q n (within n (omega arith) passes), before)
      | inr fails ↦ elim (cases_Bool (q n)) [
        | inl other ↦ omega (arith, count-fail p n fails, count-pass q n other, before)
        | inr neither ↦ omega (arith, count-fail p n fails, count-fail q n neither, before)
      ]
    ]

-- a test that no number below n passes counts none there
pub count-none : (p : ℕ → Bool) (n : ℕ) → ((v : ℕ) → v < n → p v ≡ false) → count_below p n ≡ 0
count-none p zero none = count-zero p
count-none p (suc n) none = count-fail p n (none n (omega arith)) ∙ count-none p n (λ v h. none v (omega arith))

-- a test that no number below n passes has no places there
pub places-none : (p : ℕ → Bool) (n : ℕ) → ((v : ℕ) → v < n → p v ≡ false) → places p n ≡ []
places-none p zero none = places-zero p
places-none p (suc n) none = places-fail p n (none n (omega arith)) ∙ places-none p n (λ v h. none v (omega arith))

-- tests that agree below n have equal places there
pub places-same : (p q : ℕ → Bool) (n : ℕ) → ((v : ℕ) → v < n → p v ≡ q v) → places p n ≡ places q n
unfolding places
places-same p q zero same = refl
places-same p q (suc n) same =
    let here : p n ≡ q n = same n (omega arith) in
    let before : places p n ≡ places q n = places-same p q n (λ v h. same v (omega arith)) in
    rw (here, before)

-- one of two tests that never pass together
pub count-or : (p q r : ℕ → Bool) (n : ℕ) → ((v : ℕ) → v < n → r v ≡ (p v || q v)) → ((v : ℕ) → v < n → p v ≡ true → q v ≡ false)
    → count_below r n ≡ count_below p n + count_below q n
count-or p q r zero same apart = rw (count-zero r, count-zero p, count-zero q)
count-or p q r (suc n) same apart =
    let before : count_below r n ≡ count_below p n + count_below q n = count-or p q r n (λ v h. same v (omega arith)) (λ v h. apart v (omega arith)) in
    let here : r n ≡ (p n || q n) = same n (omega arith) in
    elim (cases_Bool (p n)) [
      | inl first ↦ (
          let other : q n ≡ false = apart n (omega arith) first in
          let r_passes : r n ≡ true = here ∙ or_left (p n) (q n) first in
          rw (count-pass r n r_passes, count-pass p n first, count-fail q n other) (omega arith))
      | inr not_first ↦ elim (cases_Bool (q n)) [
        | inl second ↦ (
            let r_passes : r n ≡ true = here ∙ or_right (p n) (q n) second in
            rw (count-pass r n r_passes, count-fail p n not_first, count-pass q n second) (omega arith))
        | inr not_second ↦ (
            let r_fails : r n ≡ false = here ∙ or_from (p n) (q n) not_first not_second in
            rw (count-fail r n r_fails, count-fail p n not_first, count-fail q n not_second) before)
      ]
    ]

-- tests of which exactly one passes from m on, and none before
pub count-split : (p q : ℕ → Bool) (m n : ℕ) → m ≤ n → ((v : ℕ) → v < m → (p v ≡ false) × (q v ≡ false)) → ((v : ℕ) → m ≤ v → q v ≡ not (p v))
    → count_below p n + count_below q n ≡ n - m
count-split p q m zero h none one = rw (count-zero p, count-zero q) (omega arith)
count-split p q m (suc n) h none one = elim (cases_eq m (suc n)) [
  | inl same ↦ (
      let first : count_below p (suc n) ≡ 0 = count-none p (suc n) (λ v less. (none v (omega arith)).0) in
      let second : count_below q (suc n) ≡ 0 = count-none q (suc n) (λ v less. (none v (omega arith)).1) in
      omega arith)
  | inr other ↦ (
      let before : count_below p n + count_below q n ≡ n - m = count-split p q m n (omega arith) none one in
      let here : q n ≡ not (p n) = one n (omega arith) in
      elim (cases_Bool (p n)) [
        | inl first ↦ rw (count-pass p n first, count-fail q n (here ∙ ap not first)) (omega arith)
        | inr second ↦ rw (count-fail p n second, count-pass q n (here ∙ ap not second)) (omega arith)
      ])
]

-- a count over a list made of places
pub count_by-places : {A : Type 0} (q : A → Bool) (f : ℕ → A) (p : ℕ → Bool) (n : ℕ) → count_by q (map f (places p n)) ≡ count_below (λ v. p v && q (f v)) n
count_by-places q f p zero = rw (places-zero p, count-zero (λ v. p v && q (f v)))
count_by-places q f p (suc n) =
    let before : count_by q (map f (places p n)) ≡ count_below (λ v. p v && q (f v)) n = count_by-places q f p n in
    elim (cases_Bool (p n)) [
      | inl pass ↦ (
          let longer : count_by q (map f (places p (suc n))) ≡ count_by q (map f (places p n)) + cond (q (f n)) 1 0 =
          ap (λ (xs : List ℕ). count_by q (map f xs)) (places-pass p n pass) ∙ ap (count_by q) (map_push f (places p n) n) ∙ sum_by_push (λ x. cond (q x) 1 0) (map f (places p n)) (f n) in
          elim (cases_Bool (q (f n))) [
            | inl counted ↦ (
                let one : cond {A = ℕ} (q (f n)) 1 0 ≡ 1 = ap (λ (b : Bool). cond {A = ℕ} b 1 0) counted in
                longer ∙ omega (arith, count-pass (λ v. p v && q (f v)) n (and_from (p n) (q (f n)) pass counted)))
            | inr uncounted ↦ (
                let none : cond {A = ℕ} (q (f n)) 1 0 ≡ 0 = ap (λ (b : Bool). cond {A = ℕ} b 1 0) uncounted in
                longer ∙ omega (arith, count-fail (λ v. p v && q (f v)) n (and_right (p n) (q (f n)) uncounted)))
          ])
      | inr fails ↦ (
          let same : count_by q (map f (places p (suc n))) ≡ count_by q (map f (places p n)) = ap (λ (xs : List ℕ). count_by q (map f xs)) (places-fail p n fails) in
          same ∙ before ∙ sym (count-fail (λ v. p v && q (f v)) n (and_left (p n) (q (f n)) fails)))
    ]
