-- Loops that push something for each item.
use Rattle.std.proofs.Common.{ℕ, ◌+◌, ◌<◌, ◌≡◌, List, [], ◌∷◌, ◌++◌, length, get_or, map, take, ap, ap₂, sym, ◌∙◌}
use Rattle.std.proofs.lemmas.List.{map-append, map_more, take_more}

-- what is pushed has this of the item
pub pushed-next : {X Y Z : Type 0} (made_of : Y → Z) (made : X → Z) (xs : List X) (i : ℕ) (d : X) (before after : List Y) (y : Y) → i < length xs
    → map made_of before ≡ map made (take i xs) → made_of y ≡ made (get_or xs i d) → after ≡ before ++ y ∷ [] → map made_of after ≡ map made (take (i + 1) xs)
pushed-next {Z = Z} made_of made xs i d before after y within so_far this push =
    ap (map made_of) push ∙ map-append made_of before (y ∷ []) ∙ ap₂ (λ (zs : List Z) (z : Z). zs ++ z ∷ []) so_far this ∙ sym (map_more made xs i d within)

-- what is pushed has the item itself
pub pushed-item : {X Y : Type 0} (made_of : Y → X) (xs : List X) (i : ℕ) (d : X) (before after : List Y) (y : Y) → i < length xs → map made_of before ≡ take i xs
    → made_of y ≡ get_or xs i d → after ≡ before ++ y ∷ [] → map made_of after ≡ take (i + 1) xs
pushed-item {X} made_of xs i d before after y within so_far this push =
    ap (map made_of) push ∙ map-append made_of before (y ∷ []) ∙ ap₂ (λ (zs : List X) (z : X). zs ++ z ∷ []) so_far this ∙ sym (take_more xs i d within)
