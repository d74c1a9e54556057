-- The first clash, file by file, and that where none is found there is none.
use Rattle.std.proofs.Common.{ℕ, zero, suc, ◌+◌, ◌≡◌, ◌<◌, ◌≤◌, Bool, true, false, cond, List, [], ◌∷◌, drop, length, get_or, Option, Some, None, is_some, option_map, All, refl, sym, ap, ◌∙◌, arith}
use Rattle.std.specs.List.{find}
use Rattle.std.specs.Option.{option_or}
use Rattle.std.proofs.lemmas.Bool.{cond-false, cond-true, false≢true}
use Rattle.std.proofs.lemmas.List.{at_drop_all, at_drop_more}
use Rattle.std.proofs.lemmas.Option.{none-some}
use Rattle.file_identities.specs.Clashes.{AreFilesApart, clash, clash_among, clash_of, clash_with, first_clash}
use Rattle.file_identities.specs.declared.clash.FileClash.{FileClash}
use Rattle.file_identities.specs.declared.identity.Asked.{Asked}

-- a file at a place, and those after it
module _ (first : Asked) (others : List Asked) (i : ℕ) (none : Asked) (within : i < length others) where
  -- where it clashes, it is the first from there on that does
  pub among-at : clash first (get_or others i none) ≡ true → clash_among first (drop i others) ≡ Some (clash_of first (get_or others i none))
  among-at is =
      at_drop_more (clash_among first) others i none within
      ∙ ap (option_map (clash_of first)) (cond-true (clash first (get_or others i none)) (Some (get_or others i none)) (find (clash first) (drop (i + 1) others)) is)

  -- where it doesn't, the first is one after it
  pub among-past : clash first (get_or others i none) ≡ false → clash_among first (drop i others) ≡ clash_among first (drop (i + 1) others)
  among-past isnt =
      at_drop_more (clash_among first) others i none within
      ∙ ap (option_map (clash_of first)) (cond-false (clash first (get_or others i none)) (Some (get_or others i none)) (find (clash first) (drop (i + 1) others)) isnt)

-- past the last one there is none
pub among-end : (first : Asked) (others : List Asked) (i : ℕ) → length others ≤ i → clash_among first (drop i others) ≡ None
among-end first others i past = at_drop_all (clash_among first) others i past

-- a file that is written, at a place, and those after it
module _ (written read : List Asked) (i : ℕ) (none : Asked) (within : i < length written) (found : Option FileClash)
    (is : found ≡ clash_with (get_or written i none) (drop (i + 1) written) read) where
  -- where it clashes with one, that is the first clash from there on
  pub first-at : is_some found ≡ true → first_clash (drop i written) read ≡ found
  first-at some =
      at_drop_more (λ (xs : List Asked). first_clash xs read) written i none within
      ∙ ap (λ (o : Option FileClash). option_or o (first_clash (drop (i + 1) written) read)) (sym is) ∙ here found some
    where
      here : (o : Option FileClash) → is_some o ≡ true → option_or o (first_clash (drop (i + 1) written) read) ≡ o
      here (Some x) same = refl
      here None same = absurd (false≢true same)

  -- where it clashes with none, the first is one of those after it
  pub first-past : is_some found ≡ false → first_clash (drop i written) read ≡ first_clash (drop (i + 1) written) read
  first-past none-there =
      at_drop_more (λ (xs : List Asked). first_clash xs read) written i none within
      ∙ ap (λ (o : Option FileClash). option_or o (first_clash (drop (i + 1) written) read)) (sym is) ∙ past found none-there
    where
      past : (o : Option FileClash) → is_some o ≡ false → option_or o (first_clash (drop (i + 1) written) read) ≡ first_clash (drop (i + 1) written) read
      past None same = refl
      past (Some x) same = absurd (false≢true (sym same))

-- past the last one there is none
pub first-end : (written read : List Asked) (i : ℕ) → length written ≤ i → first_clash (drop i written) read ≡ None
first-end written read i past = at_drop_all (λ (xs : List Asked). first_clash xs read) written i past

-- a search that finds nothing
pub none_found : {X Y : Type 0} (p : X → Bool) (f : X → Y) (xs : List X) → option_map f (find p xs) ≡ None → All (λ x. p x ≡ false) xs
none_found p f [] none = λ k d within. absurd (omega (arith, within))
none_found {X} {Y} p f (x ∷ xs) none = by_test (p x) refl none (none_found p f xs)
  where
    at : p x ≡ false → All (λ y. p y ≡ false) xs → (k : ℕ) (d : X) → k < length (x ∷ xs) → p (get_or (x ∷ xs) k d) ≡ false
    at is rest zero d within = is
    at is rest (suc k) d within = rest k d (omega (arith, within))

    by_test : (b : Bool) → p x ≡ b → option_map f (cond b (Some x) (find p xs)) ≡ None → (option_map f (find p xs) ≡ None → All (λ y. p y ≡ false) xs)
        → All (λ y. p y ≡ false) (x ∷ xs)
    by_test true is same rest = absurd (none-some (f x) (sym same))
    by_test false is same rest = at is (rest same)

-- of two of which none is there, neither is
first_none : {X : Type 0} (a b : Option X) → option_or a b ≡ None → a ≡ None
first_none None b none = refl
first_none (Some x) b none = none

second_none : {X : Type 0} (a b : Option X) → option_or a b ≡ None → b ≡ None
second_none None b none = none
second_none (Some x) b none = absurd (none-some x (sym none))

-- where none is found there is none
pub apart : (written read : List Asked) → first_clash written read ≡ None → AreFilesApart written read
apart [] read none = tt
apart (first ∷ later) read none =
    let here : clash_with first later read ≡ None = first_none (clash_with first later read) (first_clash later read) none in (
      none_found (clash first) (clash_of first) later (first_none (clash_among first later) (clash_among first read) here),
      (
        none_found (clash first) (clash_of first) read (second_none (clash_among first later) (clash_among first read) here),
        apart later read (second_none (clash_with first later read) (first_clash later read) none),
      ),
    )
