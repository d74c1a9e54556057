-- Elements of lists: of mapped ones, of their fronts and of their reverses.
use Rattle.std.proofs.Common.{ℕ, ◌+◌, ◌≡◌, suc, zero, List, [], ◌∷◌, map, Bool, cond, Some, slice_get, refl, ap, sym, ◌∙◌, take, count_by, ◌++◌, reverse, None, ◌<◌, arith}
use Rattle.std.specs.List.{All}
use Rattle.std.proofs.lemmas.Option.{none-some, same_Some}
use Rattle.std.proofs.lemmas.List.Sums.{sum_by-cons}
use Rattle.std.proofs.lemmas.List.Elements.{All-head, All-tail}
use Rattle.std.proofs.lemmas.List.{reverse-append}

-- if a list has an element at a place, the mapped list has its image there
pub slice_get-map_some : {A B : Type 0} (f : A → B) (xs : List A) (k : ℕ) (x : A) → slice_get xs k ≡ Some x → slice_get (map f xs) k ≡ Some (f x)
slice_get-map_some f [] k x e = absurd (none-some x e)
slice_get-map_some f (y ∷ ys) zero x e = let same : y ≡ x = same_Some y x e in cc
slice_get-map_some f (y ∷ ys) (suc k) x e = slice_get-map_some f ys k x e

-- what is past a list is past its map
pub slice_get-map_none : {A B : Type 0} (f : A → B) (xs : List A) (k : ℕ) → slice_get xs k ≡ None → slice_get (map f xs) k ≡ None
slice_get-map_none f [] k e = refl
slice_get-map_none f (x ∷ xs) zero e = absurd (cc)
slice_get-map_none f (x ∷ xs) (suc k) e = slice_get-map_none f xs k e

-- what a mapped list has at a place is the image of what the list has there
pub from_map : {A B : Type 0} (f : A → B) (xs : List A) (k : ℕ) (y : B) → slice_get (map f xs) k ≡ Some y → (x : A) × (slice_get xs k ≡ Some x) × (y ≡ f x)
from_map f [] k y e = absurd (none-some y e)
from_map f (x ∷ xs) zero y e = (x, refl, sym (same_Some (f x) y e))
from_map f (x ∷ xs) (suc k) y e = from_map f xs k y e

-- functions that agree on the elements of a list map it to one list
pub map-same : {A B : Type 0} (P : A → Type 0) (f g : A → B) → ((x : A) → P x → f x ≡ g x) → (xs : List A) → All P xs → map f xs ≡ map g xs
map-same P f g same [] all = refl
map-same P f g same (x ∷ xs) all =
    let here : f x ≡ g x = same x (All-head P x xs all) in
    let rest : map f xs ≡ map g xs = map-same P f g same xs (All-tail P x xs all) in
    cc

-- mapping twice is mapping once with both functions
pub map-map : {A B C : Type 0} (f : B → C) (g : A → B) (xs : List A) → map f (map g xs) ≡ map (λ x. f (g x)) xs
map-map f g [] = refl
map-map {A} {B} {C} f g (x ∷ xs) = ap (λ (ys : List C). f (g x) ∷ ys) (map-map f g xs)

-- the first element adds one to a list's count if it passes
pub count_by-cons : {A : Type 0} (p : A → Bool) (x : A) (xs : List A) → count_by p (x ∷ xs) ≡ cond (p x) 1 0 + count_by p xs
count_by-cons p x xs = sum_by-cons (λ y. cond (p y) 1 0) x xs

-- a count that the map doesn't change
pub count_by-take_map : {A B : Type 0} (p : B → Bool) (q : A → Bool) (f : A → B) → ((x : A) → p (f x) ≡ q x) → (n : ℕ) (xs : List A) → count_by p (take n (map f xs)) ≡ count_by q (take n xs)
count_by-take_map p q f same zero xs = refl
count_by-take_map p q f same (suc n) [] = refl
count_by-take_map p q f same (suc n) (x ∷ xs) =
    count_by-cons p (f x) (take n (map f xs))
    ∙ ap (λ (b : Bool). cond b 1 0 + count_by p (take n (map f xs))) (same x) ∙ ap (λ (m : ℕ). cond (q x) 1 0 + m) (count_by-take_map p q f same n xs)
    ∙ sym (count_by-cons q x (take n xs))

-- what is put at the end of a list is first in the list from its end
pub reverse-push : (xs : List ℕ) (v : ℕ) → reverse (xs ++ v ∷ []) ≡ v ∷ reverse xs
reverse-push xs v = reverse-append xs (v ∷ [])

-- what stands in a front of a list
pub take_place : {A : Type 0} (xs : List A) (n k : ℕ) (x : A) → slice_get (take n xs) k ≡ Some x → (k < n) × (slice_get xs k ≡ Some x)
take_place xs zero k x e = absurd (none-some x e)
take_place [] (suc n) k x e = absurd (none-some x e)
take_place (y ∷ ys) (suc n) zero x e = (omega arith, e)
take_place (y ∷ ys) (suc n) (suc k) x e = let rest = take_place ys n k x e in (omega arith, rest.1)

-- what stands at one of the first n places stands there in the front of n
pub place_take : {A : Type 0} (xs : List A) (n k : ℕ) (x : A) → k < n → slice_get xs k ≡ Some x → slice_get (take n xs) k ≡ Some x
place_take [] n k x less e = absurd (none-some x e)
place_take (y ∷ ys) zero k x less e = absurd (omega arith)
place_take (y ∷ ys) (suc n) zero x less e = e
place_take (y ∷ ys) (suc n) (suc k) x less e = place_take ys n k x (omega arith) e
