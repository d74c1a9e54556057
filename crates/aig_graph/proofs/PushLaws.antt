-- Loops that push something for each item.
use Rattle.std.proofs.Common.{ℕ, ◌+◌, ◌<◌, ◌≤◌, ◌≡◌, List, [], ◌∷◌, ◌++◌, length, get_or, map, take, ap, ap₂, sym, ◌∙◌, subst}
use Rattle.std.specs.List.{All, flat_map}
use Rattle.std.proofs.lemmas.List.{flat_map_more, map_more, take_all, take_more}

-- the loop goes over the items as a slice, ys, of the list xs
module _ {X : Type 0} (xs ys : List X) (i : ℕ) where
  -- what holds of all items holds of this one
  pub at_item : (P : X → Type 0) (x : X) → ys ≡ xs → i < length ys → x ≡ get_or ys i x → All P xs → P x
  at_item P x same within there all =
      subst P (sym there) (subst (λ (zs : List X). P (get_or zs i x)) (sym same) (all i x (subst (λ (zs : List X). i < length zs) same within)))

  -- one more is pushed
  pub pushed : {Y : Type 0} (f : X → Y) (x : X) {before after : List Y} {y : Y} → ys ≡ xs → i < length ys → x ≡ get_or ys i x → before ≡ map f (take i xs) → y ≡ f x → after ≡ before ++ y ∷ []
      → after ≡ map f (take (i + 1) xs)
  pushed {Y} f x same within there so_far made push =
      push ∙ ap₂ (λ (zs : List Y) (z : Y). zs ++ z ∷ []) so_far (made ∙ ap f (there ∙ ap (λ (zs : List X). get_or zs i x) same))
      ∙ sym (map_more f xs i x (subst (λ (zs : List X). i < length zs) same within))

  -- the item itself is pushed
  pub pushed-same : (x : X) {before after : List X} {y : X} → ys ≡ xs → i < length ys → x ≡ get_or ys i x → before ≡ take i xs → y ≡ x → after ≡ before ++ y ∷ [] → after ≡ take (i + 1) xs
  pushed-same x same within there so_far made push =
      push ∙ ap₂ (λ (zs : List X) (z : X). zs ++ z ∷ []) so_far (made ∙ there ∙ ap (λ (zs : List X). get_or zs i x) same)
      ∙ sym (take_more xs i x (subst (λ (zs : List X). i < length zs) same within))

  -- all items have been gone over
  pub all_taken : ys ≡ xs → length ys ≤ i → take i xs ≡ xs
  all_taken same end = take_all i xs (subst (λ (zs : List X). length zs ≤ i) same end)

-- one more list is put after those before
pub list_added : {A : Type 0} (start : List A) (xs : List (List A)) (i : ℕ) (x : List A) {before after : List A} → i < length xs → x ≡ get_or xs i x
    → before ≡ start ++ flat_map (λ ys. ys) (take i xs) → after ≡ before ++ x → after ≡ start ++ flat_map (λ ys. ys) (take (i + 1) xs)
list_added {A} start xs i x within there so_far added =
    added ∙ ap (λ (ys : List A). ys ++ x) so_far ∙ flat_map_more (λ (ys : List A). ys) start (take i xs) x
    ∙ ap (λ (zs : List (List A)). start ++ flat_map (λ ys. ys) zs) (ap (λ (y : List A). take i xs ++ y ∷ []) there ∙ sym (take_more xs i x within))
