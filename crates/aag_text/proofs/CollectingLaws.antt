-- Parts that are made one after another, as long as what they read is known.
use Rattle.std.proofs.Common.{ℕ, ◌+◌, ◌<◌, ◌≤◌, ◌≡◌, length, List, [], ◌∷◌, ◌++◌, map, take, Some, None, Ok, Err, refl, Bool, true, false, cond, ap, sym, ◌∙◌, get_or, arith}
use Rattle.std.proofs.lemmas.Bool.{cond-true, cond-false, and_from}
use Rattle.std.proofs.lemmas.List.{take_more, take_all, map-append, length-map, length-take-le}
use Rattle.std.proofs.lemmas.List.Folds.{list_all_more, list_all_at}
use Rattle.std.specs.List.{list_all}
use Rattle.file_words.specs.declared.fault.ReadError.TheVariants.{Undefined}
use Rattle.aig_graph.specs.declared.graph.Latch.{Latch}
use Rattle.ascii_file.specs.declared.parts.places.Places.{Places}
use Rattle.ascii_file.specs.declared.raw.RawLatch.{RawLatch}
use Rattle.aag_text.specs.Numbering.{if_known, is_placed, placed}

-- what is made of the first items, all of them known
pub record IsMadeOf {X Y : Type 0} (known : X → Bool) (make : X → Y) (items : List X) (i : ℕ) (made : List Y) : Type 0 where
  -- what each of the first items reads is known
  pub each_known : list_all known (take i items) ≡ true
  -- what was made is that of the first items
  pub made_of : made ≡ map make (take i items)

-- a value that is there, if it is known
pub known_some : {Y : Type 0} (known : Bool) (x y : Y) → Some y ≡ cond known (Some x) None → (known ≡ true) × (y ≡ x)
known_some true x y e = (refl, cc)
known_some false x y e = absurd (cc)

-- if there is no value, what it reads isn't known
pub known_none : {Y : Type 0} (known : Bool) (x : Y) → None ≡ cond known (Some x) None → known ≡ false
known_none true x e = absurd (cc)
known_none false x e = refl

module _ {X Y : Type 0} (known : X → Bool) (make : X → Y) (items : List X) where
  -- of no items nothing is made
  pub made_none : (made : List Y) → made ≡ [] → IsMadeOf known make items 0 made
  made_none made none = record { each_known = refl; made_of = none }

  -- one item more whose part is there is known, and was made of
  pub made_more : (i : ℕ) (d : X) (y : Y) (made more : List Y) → i < length items → IsMadeOf known make items i made → Some y ≡ cond (known (get_or items i d)) (Some (make (get_or items i d))) None
      → more ≡ made ++ y ∷ [] → IsMadeOf known make items (i + 1) more
  made_more i d y made more within before here same =
      let parts = known_some (known (get_or items i d)) (make (get_or items i d)) y here in
      record {
        each_known = list_all_more known items i d within ∙ and_from (list_all known (take i items)) (known (get_or items i d)) before.each_known parts.0;
        made_of = same ∙ ap (λ (z : Y). made ++ z ∷ []) parts.1 ∙ ap (λ (ys : List Y). ys ++ make (get_or items i d) ∷ []) before.made_of
            ∙ sym (map-append make (take i items) (get_or items i d ∷ [])) ∙ ap (map make) (sym (take_more items i d within));
      }

  -- past the last item all is known, and was made of
  pub made_all : (i : ℕ) (made : List Y) → length items ≤ i → IsMadeOf known make items i made → if_known (list_all known items) (map make items) ≡ Ok made
  made_all i made past before =
      let all : list_all known items ≡ true = sym (ap (list_all known) (take_all i items past)) ∙ before.each_known in
      let same : made ≡ map make items = before.made_of ∙ ap (map make) (take_all i items past) in
      cond-true _ _ _ all ∙ ap (λ (ys : List Y). Ok ys) (sym same)

  -- an item whose part isn't there leaves something undefined
  pub made_unknown : {Z : Type 0} (i : ℕ) (d : X) (z : Z) → i < length items → None ≡ cond (known (get_or items i d)) (Some (make (get_or items i d))) None → if_known (list_all known items) z ≡ Err Undefined
  made_unknown i d z within none = cond-false _ _ _ (list_all_at known items i d within (known_none (known (get_or items i d)) (make (get_or items i d)) none))

-- one more item that is mapped
pub mapped_more : {X Y : Type 0} (f : X → Y) (xs : List X) (i : ℕ) (d : X) (y : Y) (found more : List Y) → i < length xs → found ≡ map f (take i xs) → y ≡ f (get_or xs i d) → more ≡ found ++ y ∷ [] → more ≡ map f (take (i + 1) xs)
mapped_more f xs i d y found more within before here same =
    same ∙ ap (λ z. found ++ z ∷ []) here ∙ ap (λ ys. ys ++ f (get_or xs i d) ∷ []) before ∙ sym (map-append f (take i xs) (get_or xs i d ∷ [])) ∙ ap (map f) (sym (take_more xs i d within))

-- if there is room for all items, there is room for what one more gives
pub has_room : {X Y : Type 0} (f : X → Y) (xs : List X) (i room : ℕ) (found : List Y) → i < length xs → length xs ≤ room → found ≡ map f (take i xs) → length found < room
has_room f xs i room found within enough same =
    omega (arith, within, enough, ap (λ ys. length ys) same, length-map (take i xs) f, length-take-le i xs (omega (arith, within)))

-- a latch whose next literal has no place
pub latch_unknown : (places : Places) (count : ℕ) (raws : List RawLatch) (i : ℕ) (d : RawLatch) (z : List Latch) → i < length raws → None ≡ cond (is_placed places count (get_or raws i d).next) (Some (placed places (get_or raws i d).next)) None
    → if_known (list_all (λ (latch : RawLatch). is_placed places count latch.next) raws) z ≡ Err Undefined
latch_unknown places count raws i d z within none =
    cond-false _ _ _ (list_all_at (λ (latch : RawLatch). is_placed places count latch.next) raws i d within (known_none (is_placed places count (get_or raws i d).next) (placed places (get_or raws i d).next) none))
