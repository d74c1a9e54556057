-- Items that are spelt one after the other, section by section.
use Rattle.std.proofs.Common.{ℕ, ◌+◌, ◌*◌, ◌<◌, ◌≤◌, ◌≡◌, List, [], ◌∷◌, ◌++◌, length, map, fold, refl, sym, ap, subst, ◌∙◌, append_assoc, append-nil, arith}
use Rattle.std.specs.List.{flat_map, enumerate_from, AllByRecursion}
use Rattle.std.proofs.lemmas.List.{length_push}
use Rattle.ascii_file.specs.declared.header.Header.{Header}
use Rattle.ascii_file.specs.declared.raw.Section.{Section}
use Rattle.ascii_file.specs.Raw.{Raw}
use Rattle.ascii_file.specs.Items.{Item}
use Rattle.ascii_file.specs.Reading.{with_item}
use Rattle.ascii_file.proofs.SectionLaws.{AllFollow}
use Rattle.binary_file.specs.Items.{next_section}
use Rattle.binary_file.specs.Files.{IsItem, AreItems, with_items}

-- the raw circuit with all items, whichever way it is put together
pub same_grown : (items : List Item) (raw : Raw) → with_items raw items ≡ fold with_item raw items
same_grown [] raw = refl
same_grown (item ∷ items) raw = same_grown items (with_item raw item)

-- A section whose items have these bytes: if one fits after those before it, it is spelt.
module _ (h : Header) (X : Type 0) (section : Section) (count : ℕ) (make : X → Item) (state : List X → Raw) (bytes_of : X → List ℕ) (Fit : List X → X → Type 0)
    (here : (xs : List X) → length xs < count → next_section h (state xs) ≡ section)
    (grows : (xs : List X) (x : X) → with_item (state xs) (make x) ≡ state (xs ++ x ∷ []))
    (one : (xs : List X) (x : X) (rest : List ℕ) → next_section h (state xs) ≡ section → Fit xs x → IsItem h (state xs) (make x) (bytes_of x ++ rest) rest) where
  -- if each item of a section fits after those before it, the section's bytes spell the items
  pub section_spelt : (ys xs : List X) (items : List Item) (rest : List ℕ) → length xs + length ys ≤ count → AllFollow Fit xs ys → AreItems h (state (xs ++ ys)) items rest
      → AreItems h (state xs) (map make ys ++ items) (flat_map bytes_of ys ++ rest)
  section_spelt [] xs items rest room fit later = subst (λ (zs : List X). AreItems h (state zs) items rest) (append-nil xs) later
  section_spelt (y ∷ ys) xs items rest room fit later =
      subst (λ (bytes : List ℕ). AreItems h (state xs) (make y ∷ (map make ys ++ items)) bytes) (sym (append_assoc (bytes_of y) (flat_map bytes_of ys) rest)) (
        flat_map bytes_of ys ++ rest,
        one xs y (flat_map bytes_of ys ++ rest) (here xs (omega arith)) fit.0,
        subst (λ (raw : Raw). AreItems h raw (map make ys ++ items) (flat_map bytes_of ys ++ rest)) (sym (grows xs y))
            (section_spelt ys (xs ++ y ∷ []) items rest (omega (arith, length_push xs y)) fit.1
            (subst (λ (zs : List X). AreItems h (state zs) items rest) (sym (append_assoc xs (y ∷ []) ys)) later)),
      )

-- numbered items that stand at their places
pub numbered_follow : {X Y : Type 0} (item : ℕ × X → Y) (own : Y → ℕ) (base : ℕ) (is_own : (v : ℕ) (x : X) → own (item (v, x)) ≡ 2 * v) (xs : List X) (zs : List Y) (first : ℕ) → first ≡ base + length zs
    → AllFollow (λ ys y. own y ≡ 2 * (base + length ys)) zs (map item (enumerate_from first xs))
numbered_follow item own base is_own [] zs first here = tt
numbered_follow item own base is_own (x ∷ xs) zs first here = (
  is_own first x ∙ ap (λ (n : ℕ). 2 * n) here,
  numbered_follow item own base is_own xs (zs ++ item (first, x) ∷ []) (first + 1) (omega (arith, here, length_push zs (item (first, x)))),
)

-- what follows from what holds of each
pub follow_weaker : {X : Type 0} (P Q : List X → X → Type 0) → ((xs : List X) (x : X) → P xs x → Q xs x) → (ys xs : List X) → AllFollow P xs ys → AllFollow Q xs ys
follow_weaker P Q weaker [] xs all = tt
follow_weaker P Q weaker (y ∷ ys) xs all = (weaker xs y all.0, follow_weaker P Q weaker ys (xs ++ y ∷ []) all.1)

-- of what holds of all items, the part of one section
pub part_of : {X : Type 0} (P : Item → Type 0) (make : X → Item) (ys : List X) (items : List Item) → AllByRecursion P (map make ys ++ items) → AllByRecursion (λ y. P (make y)) ys × AllByRecursion P items
part_of P make [] items all = (tt, all)
part_of P make (y ∷ ys) items all = let later = part_of P make ys items all.1 in ((all.0, later.0), later.1)

-- what holds of all items of a last section holds of what they are made of
pub last_part : {X : Type 0} (P : Item → Type 0) (make : X → Item) (ys : List X) → AllByRecursion P (map make ys) → AllByRecursion (λ y. P (make y)) ys
last_part P make [] all = tt
last_part P make (y ∷ ys) all = (all.0, last_part P make ys all.1)
