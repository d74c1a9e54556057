-- The files that are asked for, one after another.
use Rattle.std.proofs.Common.{ℕ, ◌+◌, ◌<◌, ◌≤◌, ◌≡◌, List, [], ◌∷◌, ◌++◌, Option, Some, None, length, get_or, map, take, append_assoc, ap, sym, ◌∙◌}
use Rattle.std.specs.Option.{option_to_list}
use Rattle.std.proofs.lemmas.List.{append-nil, flat_map_more, map-append, map_more, take_all, take_more}
use Rattle.file_identities.specs.FileUses.{given}
use Rattle.file_identities.specs.declared.file_use.FileUse.{FileUse}
use Rattle.file_identities.specs.declared.identity.Asked.{Asked}

-- one more is put after those before
pub asked-pushed : (before after : List Asked) (asked : Asked) (file : FileUse) → after ≡ before ++ asked ∷ [] → asked.file ≡ file
    → map (λ it. it.file) after ≡ map (λ it. it.file) before ++ file ∷ []
asked-pushed before after asked file push same =
    ap (map file_of) push ∙ map-append file_of before (asked ∷ []) ∙ ap (λ (use_of : FileUse). map file_of before ++ use_of ∷ []) same
  where
    file_of : Asked → FileUse
    file_of it = it.file

module _ {X : Type 0} (use_of : X → FileUse) (start : List FileUse) (xs : List X) (i : ℕ) where
  -- a loop asks for one file for each item, after those of the start
  pub asked-next : (d : X) (before after : List FileUse) → i < length xs → before ≡ start ++ map use_of (take i xs) → after ≡ before ++ use_of (get_or xs i d) ∷ []
      → after ≡ start ++ map use_of (take (i + 1) xs)
  asked-next d before after within so_far push =
      push ∙ ap (λ (files : List FileUse). files ++ use_of (get_or xs i d) ∷ []) so_far
      ∙ append_assoc start (map use_of (take i xs)) (use_of (get_or xs i d) ∷ [])
      ∙ ap (λ (files : List FileUse). start ++ files) (sym (map_more use_of xs i d within))

  -- it has asked for all of them
  pub asked-all : (files : List FileUse) → length xs ≤ i → files ≡ start ++ map use_of (take i xs) → files ≡ start ++ map use_of xs
  asked-all files end so_far = so_far ∙ ap (λ (ys : List X). start ++ map use_of ys) (take_all i xs end)

module _ (before after : List FileUse) (given_use : Option FileUse) where
  -- a file that there is, after those before
  pub given-pushed : (file : FileUse) → given_use ≡ Some file → after ≡ before ++ file ∷ [] → after ≡ before ++ option_to_list given_use
  given-pushed file is push = push ∙ ap (λ (o : Option FileUse). before ++ option_to_list o) (sym is)

  -- so if there is none
  pub none-pushed : given_use ≡ None → after ≡ before → after ≡ before ++ option_to_list given_use
  none-pushed is same = same ∙ sym (append-nil before) ∙ ap (λ (o : Option FileUse). before ++ option_to_list o) (sym is)

module _ (uses : List (Option FileUse)) (i : ℕ) where
  -- a loop asks for those of some files that there are
  pub given-next : (d : Option FileUse) (before after : List FileUse) → i < length uses → before ≡ given (take i uses) → after ≡ before ++ option_to_list (get_or uses i d)
      → after ≡ given (take (i + 1) uses)
  given-next d before after within so_far push =
      push ∙ ap (λ (files : List FileUse). files ++ option_to_list (get_or uses i d)) so_far
      ∙ flat_map_more option_to_list [] (take i uses) (get_or uses i d) ∙ ap given (sym (take_more uses i d within))

  -- it has asked for all of these
  pub given-all : (files : List FileUse) → length uses ≤ i → files ≡ given (take i uses) → files ≡ given uses
  given-all files end so_far = so_far ∙ ap given (take_all i uses end)
