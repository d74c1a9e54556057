-- Loops that put something after what was there before, for each item.
use Rattle.std.proofs.Common.{ℕ, ◌+◌, ◌<◌, ◌≤◌, ◌≡◌, List, [], ◌∷◌, ◌++◌, length, get_or, map, take, ap, ap₂, sym, ◌∙◌, append_assoc}
use Rattle.std.proofs.lemmas.List.{map_more, take_all}

-- that of one more item
pub put_after : {X Y : Type 0} (f : X → Y) (start : List Y) (xs : List X) (i : ℕ) (x : X) {before after : List Y} {y : Y} → i < length xs → x ≡ get_or xs i x → before ≡ start ++ map f (take i xs)
    → y ≡ f x → after ≡ before ++ y ∷ [] → after ≡ start ++ map f (take (i + 1) xs)
put_after {Y = Y} f start xs i x within there so_far made put =
    put ∙ ap₂ (λ (zs : List Y) (z : Y). zs ++ z ∷ []) so_far (made ∙ ap f there) ∙ append_assoc start (map f (take i xs)) (f (get_or xs i x) ∷ [])
    ∙ ap (λ (zs : List Y). start ++ zs) (sym (map_more f xs i x within))

-- all of them
pub put_all : {X Y : Type 0} (f : X → Y) (xs : List X) (n : ℕ) (old new : List Y) → length xs ≤ n → new ≡ old ++ map f (take n xs) → new ≡ old ++ map f xs
put_all f xs n old new h puts = rw take_all at puts
