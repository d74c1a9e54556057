-- Points no two of which are after one variable.
use Rattle.std.proofs.Common.{◌≡◌, ℕ, suc, ◌+◌, ◌-◌, ◌<◌, ◌≤◌, ◌==◌, ◌||◌, ◌&&◌, Bool, true, false, List, [], ◌∷◌, ◌++◌, length, take, drop, slice_index_or, All, arith, ap, sym, ◌∙◌, subst, inl, inr}
use Rattle.std.specs.List.{AllByRecursion, IsDistinct}
use Rattle.std.proofs.lemmas.Bool.{or_cases, or_parts, le-leb, false≢true}
use Rattle.std.proofs.lemmas.List.Elements.{recursion_from_All}
use Rattle.aig_graph.specs.Marking.{has, mark_at, Marks}
use Rattle.aig_graph.proofs.MemberLaws.{has-push}
use Rattle.frame_net.specs.declared.net.Point.{Point}
use Rattle.certificates.specs.Routes.{passed}
use Rattle.certificates.proofs.PassedLaws.{passed-more, passed-split}

all-push : (P : ℕ → Type 0) (xs : List ℕ) (x : ℕ) → AllByRecursion P xs → P x → AllByRecursion P (xs ++ x ∷ [])
all-push P [] x all p = (p, tt)
all-push P (y ∷ xs) x all p = (all.0, all-push P xs x all.1 p)

all-mid : (P : ℕ → Type 0) (xs ys : List ℕ) (x : ℕ) → AllByRecursion P (xs ++ x ∷ ys) → P x
all-mid P [] ys x all = all.0
all-mid P (y ∷ xs) ys x all = all-mid P xs ys x all.1

-- a list of different numbers stays one with a number at its end that it didn't have
pub distinct-push : (xs : List ℕ) (x : ℕ) → IsDistinct (λ v w. v == w) xs → has xs x ≡ false → IsDistinct (λ v w. v == w) (xs ++ x ∷ [])
unfolding IsDistinct
distinct-push [] x d absent = (tt, tt)
distinct-push (y ∷ xs) x d absent =
    let parts = or_parts (y == x) (has xs x) absent in
    (all-push (λ v. (y == v) ≡ false) xs x d.0 parts.0, distinct-push xs x d.1 parts.1)

-- if a number comes again that stands before, the numbers of a list aren't all different
pub distinct-not : (xs ys : List ℕ) (x : ℕ) → has xs x ≡ true → IsDistinct (λ v w. v == w) (xs ++ x ∷ ys) → ⊥
unfolding IsDistinct
distinct-not [] ys x h d = absurd (cc)
distinct-not (y ∷ xs) ys x h d = elim (or_cases (y == x) (has xs x) h) [
  | inl here ↦ absurd (false≢true (sym (all-mid (λ v. (y == v) ≡ false) xs ys x d.0) ∙ here))
  | inr later ↦ distinct-not xs ys x later d.1
]

-- the marks after one more
pub mark-more : (first : ℕ) (old new : List Bool) (x v : ℕ) → Marks first old new (λ w. x == w) → first ≤ v → v < first + length old → mark_at first new v ≡ (mark_at first old v || (x == v))
unfolding mark_at
mark-more first old new x v marks low high =
    let here : first + (v - first) ≡ v = omega arith in
    ap (λ (b : Bool). b && slice_index_or new (v - first) false) (le-leb first v low) ∙ marks.each (v - first) (omega arith)
    ∙ ap (λ (n : ℕ). slice_index_or old (v - first) false || (x == n)) here
    ∙ ap (λ (b : Bool). (b && slice_index_or old (v - first) false) || (x == v)) (sym (le-leb first v low))

-- the empty list has no two equal numbers
pub distinct-none : IsDistinct (λ v w. v == w) []
unfolding IsDistinct
distinct-none = tt

module _ (points : List Point) (k : ℕ) (d : Point) (within : k < length points) (behind : (slice_index_or points k d).behind ≡ true) where
  abbrev var : ℕ
  var = (slice_index_or points k d).var

  -- if the first k points passed a variable that the next one passes, not all variables that are
  -- passed are different
  pub distinct-seen : has (passed (take k points)) var ≡ true → IsDistinct (λ v w. v == w) (passed points) → ⊥
  distinct-seen seen all =
      distinct-not (passed (take k points)) (passed (drop (suc k) points)) var seen (subst (λ (xs : List ℕ). IsDistinct (λ v w. v == w) xs) (passed-split points k d within behind) all)

  -- if they didn't, and what they passed are different variables, so are those with one more
  pub distinct-more : IsDistinct (λ v w. v == w) (passed (take k points)) → has (passed (take k points)) var ≡ false → IsDistinct (λ v w. v == w) (passed (take (k + 1) points))
  distinct-more all absent =
      subst (λ (xs : List ℕ). IsDistinct (λ v w. v == w) xs) (sym (passed-more points k d within behind)) (distinct-push (passed (take k points)) var all absent)

  -- the variables of one point more
  pub has-more : (v : ℕ) → has (passed (take (k + 1) points)) v ≡ (has (passed (take k points)) v || (var == v))
  has-more v = ap (λ (xs : List ℕ). has xs v) (passed-more points k d within behind) ∙ has-push (passed (take k points)) var v

  -- what holds of all variables that are passed holds of this one
  pub all-here : (P : ℕ → Type 0) → All P (passed points) → P var
  all-here P all = all-mid P (passed (take k points)) (passed (drop (suc k) points)) var (recursion_from_All P _ (subst (All P) (passed-split points k d within behind) all))
