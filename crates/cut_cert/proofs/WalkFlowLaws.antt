-- The flow of one unit along each walk from the source to the sink.
use Rattle.std.proofs.Common.{◌≡◌, ℕ, suc, ◌+◌, ◌-◌, ◌*◌, ◌<◌, ◌≤◌, ◌==◌, cond, List, [], ◌∷◌, ◌++◌, length, arith, refl, ap, sym, ◌∙◌, inl, inr}
use Rattle.std.proofs.Math.Nat.{suc-mul}
use Rattle.std.proofs.lemmas.Bool.{cases_eq, cond-true, cond-false, eq-eqb, ne_eqb}
use Rattle.frame_net.specs.Flow.{State, sum_below, IsPreflow}
use Rattle.frame_net.proofs.SumLaws.{sum_below-add, sum_below-same}
use Rattle.frame_net.proofs.SparseRowLaws.{sum_one}
use Rattle.frame_net.proofs.TheoryCutLaws.{sum_all_zero}
use Rattle.cut_cert.specs.Walks.{here}
use Rattle.cut_cert.proofs.LoweringLaws.{here-one, here-zero, sum-here}
use Rattle.cut_cert.specs.Steps.{steps_of, all_steps}
use Rattle.cut_cert.proofs.MarkLaws.{steps-next, steps-none, all-next, all-none}

-- one step from a to b
abbrev pub step : ℕ → ℕ → ℕ → ℕ → ℕ
step a b x y = cond (x == a) (here y b) 0

step-row : (n a b x : ℕ) → b < n → sum_below n (step a b x) ≡ here x a
step-row n a b x h = elim (cases_eq x a) [
  | inl same ↦ sum_below-same n (step a b x) (λ y. here y b) (λ y l. cond-true (x == a) (here y b) 0 (eq-eqb x a same)) ∙ sum-here n b h ∙ sym (here-one x a same)
  | inr other ↦ sum_all_zero n (step a b x) (λ y l. cond-false (x == a) (here y b) 0 (ne_eqb x a other)) ∙ sym (here-zero x a other)
]

step-column : (n a b y : ℕ) → a < n → sum_below n (λ x. step a b x y) ≡ here y b
step-column n a b y h = sum_one n a (λ x. step a b x y) h (λ i l d. cond-false (i == a) (here y b) 0 (ne_eqb i a d)) ∙ cond-true (a == a) (here y b) 0 (eq-eqb a a refl)

-- the nodes of a walk are below n
abbrev pub AreBelow : ℕ → List ℕ → Type 0
AreBelow n [] = Unit {0}
AreBelow n (b ∷ nodes) = (b < n) × AreBelow n nodes

abbrev pub to_sink : List ℕ → List ℕ
to_sink nodes = nodes ++ 1 ∷ []

module _ (n : ℕ) (two : 1 < n) where
  out-next : (a b : ℕ) (ns : List ℕ) (v : ℕ) → b < n → sum_below n (steps_of a (b ∷ ns) v) ≡ here v a + sum_below n (steps_of b ns v)
  out-next a b ns v h =
      sum_below-same n (steps_of a (b ∷ ns) v) (λ y. step a b v y + steps_of b ns v y) (λ y l. steps-next a b ns v y)
      ∙ sum_below-add n (step a b v) (steps_of b ns v) ∙ ap (λ (m : ℕ). m + sum_below n (steps_of b ns v)) (step-row n a b v h)

  in-next : (a b : ℕ) (ns : List ℕ) (v : ℕ) → a < n → sum_below n (λ u. steps_of a (b ∷ ns) u v) ≡ here v b + sum_below n (λ u. steps_of b ns u v)
  in-next a b ns v h =
      sum_below-same n (λ u. steps_of a (b ∷ ns) u v) (λ u. step a b u v + steps_of b ns u v) (λ u l. steps-next a b ns u v)
      ∙ sum_below-add n (λ u. step a b u v) (λ u. steps_of b ns u v) ∙ ap (λ (m : ℕ). m + sum_below n (λ u. steps_of b ns u v)) (step-column n a b v h)

  out-none : (a v : ℕ) → sum_below n (steps_of a [] v) ≡ 0
  out-none a v = sum_all_zero n (steps_of a [] v) (λ y l. steps-none a v y)

  in-none : (a v : ℕ) → sum_below n (λ u. steps_of a [] u v) ≡ 0
  in-none a v = sum_all_zero n (λ u. steps_of a [] u v) (λ u l. steps-none a u v)

  -- a walk to the sink leaves a node as often as it comes to it, but for its ends
  pub balance : (a : ℕ) (ns : List ℕ) (v : ℕ) → a < n → AreBelow n ns → sum_below n (steps_of a (to_sink ns) v) + here v 1 ≡ sum_below n (λ u. steps_of a (to_sink ns) u v) + here v a
  balance a [] v h below = omega (arith, out-next a 1 [] v two, in-next a 1 [] v h, out-none 1 v, in-none 1 v)
  balance a (b ∷ ns) v h below = omega (arith, out-next a b (to_sink ns) v below.0, in-next a b (to_sink ns) v h, balance b ns v below.0 below.1)

  -- so do all walks together
  abbrev pub AllBelow : List (List ℕ) → Type 0
  AllBelow [] = Unit {0}
  AllBelow (ns ∷ ways) = AreBelow n ns × AllBelow ways

abbrev pub all_to_sink : List (List ℕ) → List (List ℕ)
all_to_sink [] = []
all_to_sink (ns ∷ ways) = to_sink ns ∷ all_to_sink ways

module _ (n : ℕ) (two : 1 < n) where
  -- walks from the source to the sink leave each inner node as often as they come to it
  pub balance-all : (ways : List (List ℕ)) (v : ℕ) → AllBelow n two ways
      → sum_below n (all_steps (all_to_sink ways) v) + length ways * here v 1 ≡ sum_below n (λ u. all_steps (all_to_sink ways) u v) + length ways * here v 0
  balance-all [] v below = omega (arith, sum_all_zero n (all_steps [] v) (λ y l. all-none v y), sum_all_zero n (λ u. all_steps [] u v) (λ u l. all-none u v))
  balance-all (ns ∷ ways) v below =
      let out : sum_below n (all_steps (all_to_sink (ns ∷ ways)) v) ≡ sum_below n (steps_of 0 (to_sink ns) v) + sum_below n (all_steps (all_to_sink ways) v) =
      sum_below-same n (all_steps (all_to_sink (ns ∷ ways)) v) (λ y. steps_of 0 (to_sink ns) v y + all_steps (all_to_sink ways) v y) (λ y l. all-next (to_sink ns) (all_to_sink ways) v y)
      ∙ sum_below-add n (steps_of 0 (to_sink ns) v) (all_steps (all_to_sink ways) v) in
      let inn : sum_below n (λ u. all_steps (all_to_sink (ns ∷ ways)) u v) ≡ sum_below n (λ u. steps_of 0 (to_sink ns) u v) + sum_below n (λ u. all_steps (all_to_sink ways) u v) =
      sum_below-same n (λ u. all_steps (all_to_sink (ns ∷ ways)) u v) (λ u. steps_of 0 (to_sink ns) u v + all_steps (all_to_sink ways) u v) (λ u l. all-next (to_sink ns) (all_to_sink ways) u v)
      ∙ sum_below-add n (λ u. steps_of 0 (to_sink ns) u v) (λ u. all_steps (all_to_sink ways) u v) in
      let one : length (ns ∷ ways) * here v 1 ≡ here v 1 + length ways * here v 1 = mul-next (length ways) (here v 1) in
      let nil : length (ns ∷ ways) * here v 0 ≡ here v 0 + length ways * here v 0 = mul-next (length ways) (here v 0) in
      omega (arith, out, inn, one, nil, balance n two 0 ns v (omega (arith, two)) below.0, balance-all ways v below.1)
    where
      mul-next : (m k : ℕ) → suc m * k ≡ k + m * k
      mul-next m k = omega (arith, suc-mul m k)

  -- ---- the state after the units

  abbrev pub sent : (ℕ → ℕ → ℕ) → List (List ℕ) → State
  sent cap ways = record {
    res = λ x y. (cap x y + all_steps (all_to_sink ways) y x) - all_steps (all_to_sink ways) x y;
    excess = λ v. length ways * here v 1;
    label = λ v. 0;
  }

  -- if walks use no pair beyond its capacity, the state after a unit along each is a preflow
  pub sent-preflow : (cap : ℕ → ℕ → ℕ) (ways : List (List ℕ)) → AllBelow n two ways → ((x y : ℕ) → x < n → y < n → all_steps (all_to_sink ways) x y ≤ cap x y) → IsPreflow n cap (sent cap ways)
  sent-preflow cap ways below within = record {
    paired = λ v w h l. omega (arith, within v w h l, within w v l h);
    conserved = λ v pos h.
        let u : ℕ → ℕ → ℕ = all_steps (all_to_sink ways) in
        let each : sum_below n (λ w. ((cap v w + u w v) - u v w) + u v w) ≡ sum_below n (λ w. cap v w + u w v) =
        sum_below-same n (λ w. ((cap v w + u w v) - u v w) + u v w) (λ w. cap v w + u w v) (λ w l. omega (arith, within v w h l)) in
        let none : here v 0 ≡ 0 = here-zero v 0 (λ e. omega (arith, e, pos)) in
        let nothing : length ways * here v 0 ≡ 0 = ap (λ (m : ℕ). length ways * m) none ∙ omega arith in
        omega (
          arith,
          each,
          nothing,
          sum_below-add n (λ w. (cap v w + u w v) - u v w) (u v),
          sum_below-add n (cap v) (λ w. u w v),
          balance-all ways v below,
        );
  }
