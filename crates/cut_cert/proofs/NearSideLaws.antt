-- The near side of a greatest flow is the smallest least cut.
use Rattle.std.proofs.Common.{◌≡◌, ℕ, ◌<◌, ◌≤◌, Bool, true, false, not, ◌&&◌, cond, arith, refl, ap, sym, ◌∙◌, inl, inr}
use Rattle.std.proofs.lemmas.Bool.{cases_lt, cases_Bool, false≢true}
use Rattle.frame_net.specs.Flow.{State, sum_below, IsPreflow, between, IsCut, cut_value}
use Rattle.frame_net.proofs.SumLaws.{term-le-sum_below}
use Rattle.frame_net.proofs.TheoryCutLaws.{held_off, cut_identity, sum_all_zero, cond_zero, one_term, sink-le-held}
use Rattle.cut_cert.specs.Cuts.{NoneLeaves, IsNearSide, IsSmallestLeastCut, NearSideIsSmallest}

-- if the residuals that leave a set sum to none, no residual arc leaves it
pub none_leaves-sum : (n : ℕ) (s : State) (other : ℕ → Bool) → between n other (λ w. not (other w)) s.res ≡ 0 → NoneLeaves n s other
none_leaves-sum n s other z v w h k on pos = elim (cases_Bool (other w)) [
  | inl there ↦ there
  | inr off ↦
      let inner : cond (other v && not (other w)) (s.res v w) 0 ≤ sum_below n (λ x. cond (other v && not (other x)) (s.res v x) 0) = term-le-sum_below n w (λ x. cond (other v && not (other x)) (s.res v x) 0) k in
      let outer : sum_below n (λ x. cond (other v && not (other x)) (s.res v x) 0) ≤ between n other (λ x. not (other x)) s.res = term-le-sum_below n v (λ y. sum_below n (λ x. cond (other y && not (other x)) (s.res y x) 0)) h in
      let is : cond (other v && not (other w)) (s.res v w) 0 ≡ s.res v w = rw (on, off) refl in
      absurd (omega (arith, inner, outer, is, z))
]

-- a cut that is worth no more than what has reached the sink
pub none_leaves-cut : (n : ℕ) (cap : ℕ → ℕ → ℕ) (s : State) (other : ℕ → Bool) → 1 < n → IsPreflow n cap s → IsCut other → cut_value n cap other ≤ s.excess 1 → NoneLeaves n s other
none_leaves-cut n cap s other big p cut le =
    none_leaves-sum n s other (omega (arith, le, cut_identity n cap s other p cut.with_source, sink-le-held n s other big cut.without_sink))

module _ (n : ℕ) (cap : ℕ → ℕ → ℕ) (s : State) (side : ℕ → Bool) (big : 1 < n) (p : IsPreflow n cap s)
    (drained : (v : ℕ) → 1 < v → v < n → s.excess v ≡ 0) (near : IsNearSide n s side) (off : side 1 ≡ false) where
  no-residual : between n side (λ w. not (side w)) s.res ≡ 0
  no-residual = sum_all_zero n (λ v. sum_below n (λ w. cond (side v && not (side w)) (s.res v w) 0))
      (λ v h. sum_all_zero n (λ w. cond (side v && not (side w)) (s.res v w) 0)
      (λ w k. cond_zero (side v) (side w) (s.res v w) (λ a b. elim (cases_lt 0 (s.res v w)) [
        | inr none ↦ omega (arith, none)
        | inl some ↦ absurd (false≢true (sym b ∙ near.none_leaves v w h k a some))
      ])))

  none : (b : Bool) (x : ℕ) → x ≡ 0 → cond b x 0 ≡ 0
  none true x e = e
  none false x e = refl

  off-term : (v : ℕ) → v < n → (v ≡ 1 → ⊥) → cond (not (side v)) (s.excess v) 0 ≡ 0
  off-term v h other = elim (cases_lt 1 v) [
    | inl inner ↦ none (not (side v)) (s.excess v) (drained v inner h)
    | inr low ↦ (let zero' : v ≡ 0 = omega (arith, low, other) in ap (λ (b : Bool). cond (not b) (s.excess v) 0) (ap side zero' ∙ near.with_source))
  ]

  within : (b : Bool) (x : ℕ) → cond b x 0 ≤ x
  within true x = omega arith
  within false x = omega arith

  worth : cut_value n cap side ≤ s.excess 1
  worth =
      let all : held_off n s side ≤ cond (not (side 1)) (s.excess 1) 0 = one_term n (λ v. cond (not (side v)) (s.excess v) 0) off-term in
      omega (arith, cut_identity n cap s side p near.with_source, no-residual, all, within (not (side 1)) (s.excess 1))

  -- if no inner node holds excess, and the sink is off it, the near side is the smallest least cut
  pub near-smallest : IsSmallestLeastCut n cap side
  near-smallest = record {
    is_cut = record { with_source = near.with_source; without_sink = off };
    least = λ other o. omega (arith, worth, cut_identity n cap s other p o.with_source, sink-le-held n s other big o.without_sink);
    smallest = λ other o le v h on. near.within other o.with_source (none_leaves-cut n cap s other big p o (omega (arith, le, worth))) v h on;
  }

-- of each preflow without excess at inner nodes the near side, if the sink is off it, is the
-- smallest least cut
pub near_side_is_smallest-law : NearSideIsSmallest
near_side_is_smallest-law n cap s side big p drained near off = near-smallest n cap s side big p drained near off
