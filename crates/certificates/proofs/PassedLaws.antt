-- The variables that routes pass, point by point and route by route.
use Rattle.std.proofs.Common.{◌≡◌, ℕ, suc, ◌+◌, ◌<◌, true, false, List, [], ◌∷◌, ◌++◌, length, take, take-suc, drop, drop-cons, slice_index_or, arith, refl, ap, sym, ◌∙◌, inl, inr}
use Rattle.std.proofs.lemmas.Bool.{cases_Bool}
use Rattle.std.proofs.lemmas.List.{append-nil, take-append-drop}
use Rattle.frame_net.specs.declared.net.Point.{Point}
use Rattle.certificates.specs.Routes.{passed, all_passed}
use Rattle.certificates.proofs.RouteLaws.{passed-behind, passed-before}

-- the points of two lists that are joined pass what each list does
pub passed-append : (xs ys : List Point) → passed (xs ++ ys) ≡ passed xs ++ passed ys
unfolding passed
passed-append [] ys = refl
passed-append (p ∷ xs) ys = elim (cases_Bool p.behind) [
  | inl yes' ↦ passed-behind p (xs ++ ys) yes' ∙ ap (λ (vs : List ℕ). p.var ∷ vs) (passed-append xs ys) ∙ ap (λ (vs : List ℕ). vs ++ passed ys) (sym (passed-behind p xs yes'))
  | inr no' ↦ passed-before p (xs ++ ys) no' ∙ passed-append xs ys ∙ ap (λ (vs : List ℕ). vs ++ passed ys) (sym (passed-before p xs no'))
]

-- the first k elements and the one after them are the first k + 1
pub next : {A : Type 0} (xs : List A) (k : ℕ) (d : A) → k < length xs → take (k + 1) xs ≡ take k xs ++ slice_index_or xs k d ∷ []
next xs k d h =
    let same : k + 1 ≡ suc k = omega arith in
    ap (λ n. take n xs) same ∙ take-suc xs k d h

-- one point more
pub passed-more : (route : List Point) (k : ℕ) (d : Point) → k < length route → (slice_index_or route k d).behind ≡ true
    → passed (take (k + 1) route) ≡ passed (take k route) ++ (slice_index_or route k d).var ∷ []
unfolding passed
passed-more route k d h behind =
    ap passed (next route k d h) ∙ passed-append (take k route) (slice_index_or route k d ∷ [])
    ∙ ap (λ (vs : List ℕ). passed (take k route) ++ vs) (passed-behind (slice_index_or route k d) [] behind)

-- a point before its variable adds none to those that a route passes
pub passed-same : (route : List Point) (k : ℕ) (d : Point) → k < length route → (slice_index_or route k d).behind ≡ false → passed (take (k + 1) route) ≡ passed (take k route)
unfolding passed
passed-same route k d h before =
    ap passed (next route k d h) ∙ passed-append (take k route) (slice_index_or route k d ∷ [])
    ∙ ap (λ (vs : List ℕ). passed (take k route) ++ vs) (passed-before (slice_index_or route k d) [] before) ∙ append-nil (passed (take k route))

-- a route passes what it does up to a point after a variable, that variable, and what follows
pub passed-split : (route : List Point) (k : ℕ) (d : Point) → k < length route → (slice_index_or route k d).behind ≡ true
    → passed route ≡ passed (take k route) ++ (slice_index_or route k d).var ∷ passed (drop (suc k) route)
passed-split route k d h behind =
    ap passed (sym (take-append-drop k route) ∙ ap (λ (xs : List Point). take k route ++ xs) (drop-cons route k d h))
    ∙ passed-append (take k route) (slice_index_or route k d ∷ drop (suc k) route)
    ∙ ap (λ (vs : List ℕ). passed (take k route) ++ vs) (passed-behind (slice_index_or route k d) (drop (suc k) route) behind)

-- a route without points passes no variable
pub passed-none : passed [] ≡ []
unfolding passed
passed-none = refl

-- if there is no route, no variable is passed
pub all-none : all_passed [] ≡ []
unfolding all_passed
all-none = refl
