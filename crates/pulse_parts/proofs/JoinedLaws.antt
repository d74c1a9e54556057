-- The place of an element of the joined values among the parts that are left, and counts over all
-- parts.
use Rattle.std.proofs.Common.{◌≡◌, ℕ, ◌+◌, ◌-◌, ◌<◌, ◌≤◌, ◌^◌, min, List, ◌∷◌, length, slice_index, get_or, drop, arith, refl, sym, ap, ◌∙◌, subst}
use Rattle.std.proofs.lemmas.List.{drop_all, get_or-append_right, length-append}
use Rattle.std.proofs.Math.ListN.{get_or-append}
use Rattle.std.specs.List.{flat_map}
use Rattle.pulse_parts.specs.declared.parts.PushPart.{PushPart}
use Rattle.pulse_parts.specs.Parts.{rows_walked}
use Rattle.pulse_parts.proofs.PartsLeftLaws.{left_at}

-- the x-th of all joined values is at a place among those of the parts that are left
pub record IsAhead {P : Type 0} (values : P → List ℕ) (all rest : List P) (x place : ℕ) : Type 0 where
  -- the place is within the values of the parts that are left
  pub inside : place < length (flat_map values rest)
  -- the value at this place is the x-th of all
  pub same : slice_index (flat_map values all) x ≡ slice_index (flat_map values rest) place

-- before the first part the x-th value is ahead at place x
pub ahead_first : {P : Type 0} (values : P → List ℕ) (all : List P) (x : ℕ) → x < length (flat_map values all) → IsAhead values all all x x
ahead_first {P} values all x h = record { inside = h; same = refl }

at_index : {P : Type 0} (values : P → List ℕ) (all : List P) (x place i : ℕ) (p : P) → i < length all → p ≡ get_or all i p → IsAhead values all (drop i all) x place → IsAhead values all (p ∷ drop (i + 1) all) x place
at_index {P} values all x place i p h e a = subst (λ (rest : List P). IsAhead values all rest x place) (left_at all i p h e) a

-- past a part of fewer values the place is less by as many
pub ahead_next : {P : Type 0} (values : P → List ℕ) (all : List P) (x place i size : ℕ) (p : P) → i < length all → p ≡ get_or all i p → size ≡ length (values p) → size ≤ place → IsAhead values all (drop i all) x place
    → IsAhead values all (drop (i + 1) all) x (place - size)
ahead_next {P} values all x place i size p h e sized past a0 =
    let a = at_index values all x place i p h e a0 in
    record {
      inside = omega (arith, a.inside, length-append (values p) (flat_map values (drop (i + 1) all)));
      same = a.same ∙ get_or-append_right (values p) (flat_map values (drop (i + 1) all)) (length (values p)) place 0 refl (omega arith)
          ∙ ap (λ (n : ℕ). slice_index (flat_map values (drop (i + 1) all)) (place - n)) (sym sized);
    }

-- a place within the next part's values is that of the x-th value in this part
pub ahead_here : {P : Type 0} (values : P → List ℕ) (all : List P) (x place i : ℕ) (p : P) → i < length all → p ≡ get_or all i p → place < length (values p) → IsAhead values all (drop i all) x place
    → slice_index (values p) place ≡ slice_index (flat_map values all) x
ahead_here {P} values all x place i p h e inside a0 =
    let a = at_index values all x place i p h e a0 in
    sym (a.same ∙ get_or-append (values p) (flat_map values (drop (i + 1) all)) 0 place inside)

-- ---- counts of rows walked

-- with a part's count added, the counts of the parts that are left still make up all
pub walked_next : (all : List PushPart) (i count next : ℕ) (p : PushPart) → i < length all → p ≡ get_or all i p → next ≡ min (count + p.walked) (2 ^ 32 - 1)
    → min (count + rows_walked (drop i all)) (2 ^ 32 - 1) ≡ min (rows_walked all) (2 ^ 32 - 1) → min (next + rows_walked (drop (i + 1) all)) (2 ^ 32 - 1) ≡ min (rows_walked all) (2 ^ 32 - 1)
walked_next all i count next p h e en c =
    let rest : rows_walked (drop i all) ≡ p.walked + rows_walked (drop (i + 1) all) = ap rows_walked (left_at all i p h e) in
    omega (arith, rest, en, c)

-- past the last part the count is that of all, up to the greatest of 32 bits
pub walked_end : (all : List PushPart) (i count : ℕ) → length all ≤ i → count ≤ 2 ^ 32 - 1 → min (count + rows_walked (drop i all)) (2 ^ 32 - 1) ≡ min (rows_walked all) (2 ^ 32 - 1)
    → count ≡ min (rows_walked all) (2 ^ 32 - 1)
walked_end all i count h few c =
    let none : rows_walked (drop i all) ≡ 0 = ap rows_walked (drop_all i all h) in
    omega (arith, none, few, c)
