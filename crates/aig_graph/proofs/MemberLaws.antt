-- A rising list is the list of the places of its members. A list with one more number at its end
-- has that one too.
use Rattle.std.proofs.Common.{ℕ, ◌+◌, ◌<◌, ◌≤◌, ◌≡◌, inl, inr, suc, zero, List, [], ◌∷◌, ◌++◌, filter, Bool, true, false, ◌||◌, cond, nat_eq, nat_lt, refl, arith, ap, sym, ◌∙◌, ◌==◌}
use Rattle.std.specs.List.{All}
use Rattle.std.specs.List.Sorted.{IsStrictlyIncreasing}
use Rattle.std.proofs.lemmas.Bool.{cases_order, lt-ltb, le-ltb, eq-eqb, ne_eqb, cond-true, cond-false, or_from, or_left}
use Rattle.std.proofs.lemmas.List.Elements.{All-head, All-tail, All-weaker}
use Rattle.std.proofs.lemmas.List.Folds.{list_any_none}
use Rattle.std.proofs.lemmas.List.Kept.{AllPairs-from_increasing}
use Rattle.aig_graph.specs.Marking.{has}
use Rattle.aig_graph.specs.Counting.{places}

below_first : (x : ℕ) (xs : List ℕ) → IsStrictlyIncreasing (x ∷ xs) → All (λ y. x < y) xs
below_first x xs rising k d h = AllPairs-from_increasing (x ∷ xs) rising 0 (suc k) d (omega arith) (omega arith)

-- what follows the first of a rising list rises
pub rising_rest : (x : ℕ) (xs : List ℕ) → IsStrictlyIncreasing (x ∷ xs) → IsStrictlyIncreasing xs
rising_rest x xs rising k h = AllPairs-from_increasing (x ∷ xs) rising (suc k) (suc (k + 1)) 0 (omega arith) (omega arith)

abbrev front : ℕ → List ℕ → List ℕ
front n s = filter (λ w. nat_lt w n) s

front-none : (n : ℕ) (xs : List ℕ) → All (λ y. n ≤ y) xs → front n xs ≡ []
front-none n [] all = refl
front-none n (x ∷ xs) all =
    cond-false (nat_lt x n) _ _ (le-ltb x n (All-head (λ y. n ≤ y) x xs all)) ∙ front-none n xs (All-tail (λ y. n ≤ y) x xs all)

front-all : (n : ℕ) (xs : List ℕ) → All (λ y. y < n) xs → front n xs ≡ xs
front-all n [] all = refl
front-all n (x ∷ xs) all =
    cond-true (nat_lt x n) _ _ (lt-ltb x n (All-head (λ y. y < n) x xs all)) ∙ ap (λ (ys : List ℕ). x ∷ ys) (front-all n xs (All-tail (λ y. y < n) x xs all))

has-none : (n : ℕ) (xs : List ℕ) → All (λ y. n < y) xs → has xs n ≡ false
has-none n xs all = list_any_none (λ w. nat_eq w n) xs (All-weaker (λ y. n < y) (λ y. nat_eq y n ≡ false) (λ y less. ne_eqb y n (λ e. omega arith)) xs all)

front-more : (n : ℕ) (s : List ℕ) → IsStrictlyIncreasing s → front (suc n) s ≡ front n s ++ cond (has s n) (n ∷ []) []
front-more n [] rising = refl
front-more n (x ∷ xs) rising =
    let later : All (λ y. x < y) xs = below_first x xs rising in
    elim (cases_order x n) [
      | inl same ↦ (
          let here : has (x ∷ xs) n ≡ true = or_left (nat_eq x n) (has xs n) (eq-eqb x n same) in
          let none : front n xs ≡ [] = front-none n xs (All-weaker (λ y. x < y) (λ y. n ≤ y) (λ y less. omega arith) xs later) in
          let none_more : front (suc n) xs ≡ [] = front-none (suc n) xs (All-weaker (λ y. x < y) (λ y. suc n ≤ y) (λ y less. omega arith) xs later) in
          let left : front (suc n) (x ∷ xs) ≡ x ∷ [] = cond-true (nat_lt x (suc n)) _ _ (lt-ltb x (suc n) (omega arith)) ∙ ap (λ (ys : List ℕ). x ∷ ys) none_more in
          let right : front n (x ∷ xs) ≡ [] = cond-false (nat_lt x n) _ _ (le-ltb x n (omega arith)) ∙ none in
          left ∙ ap (λ (w : ℕ). w ∷ []) same ∙ sym (ap (λ (ys : List ℕ). ys ++ cond (has (x ∷ xs) n) (n ∷ []) []) right ∙ ap (λ (b : Bool). cond b (n ∷ []) []) here))
      | inr (inl less) ↦ (
          let here : has (x ∷ xs) n ≡ has xs n = ap (λ (b : Bool). b || has xs n) (ne_eqb x n (λ e. omega arith)) in
          let left : front (suc n) (x ∷ xs) ≡ x ∷ front (suc n) xs = cond-true (nat_lt x (suc n)) _ _ (lt-ltb x (suc n) (omega arith)) in
          let right : front n (x ∷ xs) ≡ x ∷ front n xs = cond-true (nat_lt x n) _ _ (lt-ltb x n less) in
          left ∙ ap (λ (ys : List ℕ). x ∷ ys) (front-more n xs (rising_rest x xs rising))
          ∙ sym (ap (λ (ys : List ℕ). ys ++ cond (has (x ∷ xs) n) (n ∷ []) []) right ∙ ap (λ (b : Bool). x ∷ front n xs ++ cond b (n ∷ []) []) here))
      | inr (inr more) ↦ (
          let here : has (x ∷ xs) n ≡ false = or_from (nat_eq x n) (has xs n) (ne_eqb x n (λ e. omega arith)) (has-none n xs (All-weaker (λ y. x < y) (λ y. n < y) (λ y less. omega arith) xs later)) in
          let none : front n xs ≡ [] = front-none n xs (All-weaker (λ y. x < y) (λ y. n ≤ y) (λ y less. omega arith) xs later) in
          let none_more : front (suc n) xs ≡ [] = front-none (suc n) xs (All-weaker (λ y. x < y) (λ y. suc n ≤ y) (λ y less. omega arith) xs later) in
          let left : front (suc n) (x ∷ xs) ≡ [] = cond-false (nat_lt x (suc n)) _ _ (le-ltb x (suc n) (omega arith)) ∙ none_more in
          let right : front n (x ∷ xs) ≡ [] = cond-false (nat_lt x n) _ _ (le-ltb x n (omega arith)) ∙ none in
          left ∙ sym (ap (λ (ys : List ℕ). ys ++ cond (has (x ∷ xs) n) (n ∷ []) []) right ∙ ap (λ (b : Bool). cond b (n ∷ []) []) here))
    ]

places-front : (s : List ℕ) → IsStrictlyIncreasing s → (n : ℕ) → places (has s) n ≡ front n s
unfolding places
places-front s rising zero = sym (front-none 0 s (λ k d h. omega arith))
places-front s rising (suc n) = ap (λ (xs : List ℕ). xs ++ cond (has s n) (n ∷ []) []) (places-front s rising n) ∙ sym (front-more n s rising)

-- a strictly rising list of numbers below n is the list of the places of its members
pub places-members : (s : List ℕ) (n : ℕ) → IsStrictlyIncreasing s → All (λ v. v < n) s → places (has s) n ≡ s
places-members s n rising below = places-front s rising n ∙ front-all n s below

-- a list with one more number at its end has that one too
pub has-push : (xs : List ℕ) (x v : ℕ) → has (xs ++ x ∷ []) v ≡ (has xs v || (x == v))
has-push [] x v = nil (x == v)
  where
    nil : (b : Bool) → (b || false) ≡ (false || b)
    nil true = refl
    nil false = refl
has-push (y ∷ xs) x v = ap (λ (b : Bool). (y == v) || b) (has-push xs x v) ∙ assoc (y == v) (has xs v) (x == v)
  where
    assoc : (a b c : Bool) → (a || (b || c)) ≡ ((a || b) || c)
    assoc true b c = refl
    assoc false b c = refl
