-- Residual distances: what is computed is what is defined, and agreeing states have equal ones.
use Rattle.std.proofs.Common.{◌≡◌, ℕ, zero, suc, ◌<◌, ◌≤◌, ◌&&◌, nat_lt, cond, true, arith, sym, ◌∙◌, subst, inl, inr}
use Rattle.std.proofs.lemmas.Bool.{cases_lt, cases_Bool, lt-ltb, le-ltb, eqb-true, eq-eqb, cond-true, cond-false, false≢true, and_from, and_parts}
use Rattle.frame_net.specs.Flow.{State, Walk, least_below}
use Rattle.frame_net.specs.Laws.{IsDistance}
use Rattle.frame_net.proofs.SumLaws.{least_below-le, least_below-le_start}
use Rattle.pulse_parts.specs.Parts.{Agree}
use Rattle.pulse_parts.proofs.ActiveLaws.{any_from, some_at}
use Rattle.pulse_parts.specs.Distances.{reaches_in, distance, exact}

-- a least below its bound is some number's
least_some : (n : ℕ) (f : ℕ → ℕ) (m : ℕ) → least_below n f m < m → (i : ℕ) × ((i < n) × (f i ≡ least_below n f m))
least_some zero f m h = absurd (omega (arith, h))
least_some (suc n) f m h = elim (cases_lt (least_below n f m) (f n)) [
  | inl less ↦ (let r = least_some n f m (omega (arith, h, less)) in (r.0, (omega (arith, r.1.0), omega (arith, r.1.1, less))))
  | inr more ↦ (n, (omega arith, omega (arith, more)))
]

above : (m : ℕ) → nat_lt 0 m ≡ true → 0 < m
above m e = elim (cases_lt 0 m) [ inl yes' ↦ yes' | inr no' ↦ absurd (false≢true (sym (le-ltb 0 m no') ∙ e)) ]

walk_in : (n : ℕ) (s : State) (k v : ℕ) → reaches_in n s k v ≡ true → Walk n s k v
walk_in n s zero v e = eqb-true v 1 e
walk_in n s (suc k) v e =
    let r = some_at n (λ w. nat_lt 0 (s.res v w) && reaches_in n s k w) e in
    let p = and_parts (nat_lt 0 (s.res v r.0)) (reaches_in n s k r.0) r.1.1 in
    (r.0, (r.1.0, (above (s.res v r.0) p.0, walk_in n s k r.0 p.1)))

in_walk : (n : ℕ) (s : State) (k v : ℕ) → Walk n s k v → reaches_in n s k v ≡ true
in_walk n s zero v e = eq-eqb v 1 e
in_walk n s (suc k) v t =
    any_from n (λ w. nat_lt 0 (s.res v w) && reaches_in n s k w) t.0 t.1.0
    (and_from (nat_lt 0 (s.res v t.0)) (reaches_in n s k t.0) (lt-ltb 0 (s.res v t.0) t.1.1.0) (in_walk n s k t.0 t.1.1.1))

module _ (n : ℕ) (s : State) where
  -- what is computed is the residual distance to the sink
  pub distance_is : IsDistance n s (distance n s)
  distance_is = record {
    small = λ v h. least_below-le_start n (λ k. cond (reaches_in n s k v) k n) n;
    walk = λ v h near. (
        let r = least_some n (λ k. cond (reaches_in n s k v) k n) n near in
        elim (cases_Bool (reaches_in n s r.0 v)) [
          | inl on ↦ (
              let same : r.0 ≡ distance n s v = sym (cond-true (reaches_in n s r.0 v) r.0 n on) ∙ r.1.1 in
              subst (λ (k : ℕ). Walk n s k v) same (walk_in n s r.0 v on))
          | inr off ↦ (
              let same : n ≡ distance n s v = sym (cond-false (reaches_in n s r.0 v) r.0 n off) ∙ r.1.1 in
              absurd (omega (arith, same, near)))
        ]);
    least = λ v k h way. elim (cases_lt k n) [
      | inl less ↦ omega (
        arith,
        least_below-le n k (λ j. cond (reaches_in n s j v) j n) n less,
        cond-true (reaches_in n s k v) k n (in_walk n s k v way),
      )
      | inr more ↦ omega (arith, least_below-le_start n (λ j. cond (reaches_in n s j v) j n) n, more)
    ];
  }

  -- there is one distance
  pub one_distance : (d e : ℕ → ℕ) → IsDistance n s d → IsDistance n s e → (v : ℕ) → v < n → d v ≡ e v
  one_distance d e p q v h = omega (arith, most d e p q, most e d q p)
    where
      most : (f g : ℕ → ℕ) → IsDistance n s f → IsDistance n s g → f v ≤ g v
      most f g a b = elim (cases_lt (g v) n) [
        | inl near ↦ a.least v (g v) h (b.walk v h near)
        | inr far ↦ omega (arith, a.small v h, far)
      ]

-- states with equal residuals have equal walks and distances
pub walk_same : (n : ℕ) (s t : State) → ((v w : ℕ) → v < n → w < n → s.res v w ≡ t.res v w) → (k v : ℕ) → v < n → Walk n s k v → Walk n t k v
walk_same n s t e zero v h way = way
walk_same n s t e (suc k) v h way =
    (way.0, (way.1.0, (subst (λ (x : ℕ). 0 < x) (e v way.0 h way.1.0) way.1.1.0, walk_same n s t e k way.0 way.1.0 way.1.1.1)))

-- a distance of one state is one of each state with equal residuals
pub distance_same : (n : ℕ) (s t : State) → ((v w : ℕ) → v < n → w < n → s.res v w ≡ t.res v w) → (d : ℕ → ℕ) → IsDistance n s d → IsDistance n t d
distance_same n s t e d p = record {
  small = p.small;
  walk = λ v h near. walk_same n s t e (d v) v h (p.walk v h near);
  least = λ v k h way. p.least v k h (walk_same n t s (λ u w a b. sym (e u w a b)) k v h way);
}

-- exact labels of agreeing states agree
pub exact_same : (n : ℕ) (s t : State) → Agree n s t → Agree n (exact n s) (exact n t)
exact_same n s t a = record {
  res = a.res;
  excess = a.excess;
  label = one_distance n t (distance n s) (distance n t) (distance_same n s t a.res (distance n s) (distance_is n s)) (distance_is n t);
}

-- a state whose labels are the distances
pub exact_is : (n : ℕ) (s t : State) → ((v w : ℕ) → v < n → w < n → s.res v w ≡ t.res v w) → ((v : ℕ) → v < n → s.excess v ≡ t.excess v) → IsDistance n s t.label → Agree n (exact n s) t
exact_is n s t res excess far = record {
  res = res;
  excess = excess;
  label = one_distance n s (distance n s) t.label (distance_is n s) far;
}
