-- Places that are read rise, and are those of free latches.
use Rattle.std.proofs.Common.{inl, inr, ℕ, ◌+◌, ◌-◌, ◌<◌, ◌≤◌, ◌≡◌, ◌||◌, Bool, true, false, nat_le, nat_lt, List, [], ◌∷◌, ◌++◌, length, get_or, slice_get, Option, Some, None, Result, Ok, Err, IfOk, refl, arith, rules, ap, sym, ◌∙◌, if◌then◌else◌}
use Rattle.std.specs.List.Sorted.{IsStrictlyIncreasing}
use Rattle.std.proofs.Math.Seq.{get_or-append_seam}
use Rattle.std.proofs.lemmas.Bool.{cases_lt, false≢true, ltb-false, leb-false}
use Rattle.std.proofs.lemmas.List.{get_or_append_left, length_push}
use Rattle.std.proofs.lemmas.List.Elements.{All-push}
use Rattle.std.proofs.lemmas.Option.{slice_get-get_or}
use Rattle.file_words.specs.Answering.{◌>>=◌, Fails}
use Rattle.file_words.specs.Numbers.{number_of}
use Rattle.file_words.specs.Reading.{read_lines}
use Rattle.lane_sim.specs.Kept.{ArePlaces, after_last, counted, next_place, read_place, with_place}
use Rattle.lane_sim.specs.declared.fault.StimError.{StimError}
use Rattle.lane_sim.specs.declared.fault.StimError.TheVariants.{BadLine}

rising-push : (xs : List ℕ) (g : ℕ) → IsStrictlyIncreasing xs → next_place xs ≤ g → IsStrictlyIncreasing (xs ++ g ∷ [])
rising-push xs g rising after k h = elim (cases_lt (k + 1) (length xs)) [
  | inl less ↦ (
      let this : get_or (xs ++ g ∷ []) k 0 ≡ get_or xs k 0 = get_or_append_left xs (g ∷ []) 0 k (omega (arith, less)) in
      let next : get_or (xs ++ g ∷ []) (k + 1) 0 ≡ get_or xs (k + 1) 0 = get_or_append_left xs (g ∷ []) 0 (k + 1) less in
      omega (arith, this, next, rising k less))
  | inr past ↦ (
      let last : k + 1 ≡ length xs = omega (arith, past, h, length_push xs g) in
      let this : get_or (xs ++ g ∷ []) k 0 ≡ get_or xs k 0 = get_or_append_left xs (g ∷ []) 0 k (omega (arith, last)) in
      let next : get_or (xs ++ g ∷ []) (k + 1) 0 ≡ g = ap (λ (n : ℕ). get_or (xs ++ g ∷ []) n 0) last ∙ get_or-append_seam xs g [] 0 in
      let end : length xs - 1 ≡ k = omega (arith, last) in
      let most : next_place xs ≡ get_or xs k 0 + 1 = ap (λ (n : ℕ). after_last (slice_get xs n)) end ∙ ap after_last (slice_get-get_or xs k 0 (omega (arith, last))) in
      omega (arith, this, next, most, after))
]

-- no places are a list of rising places
pub no_places : (free : ℕ) → ArePlaces free []
no_places free = record { rising = λ k h. absurd (omega (arith, h)); below = search rules }

places-more : (free place : ℕ) (kept : List ℕ) → ArePlaces free kept → next_place kept ≤ place → place < free → ArePlaces free (kept ++ place ∷ [])
places-more free place kept are after within =
    record { rising = rising-push kept place are.rising after; below = All-push (λ p. p < free) kept place are.below within }

none_of : (a b : Bool) → (a || b) ≡ false → (a ≡ false) × (b ≡ false)
none_of true b e = absurd (false≢true (sym e))
none_of false b e = (refl, e)

placed : (free at : ℕ) (kept : List ℕ) (found : Option ℕ) → ArePlaces free kept → IfOk (with_place free at kept found) (ArePlaces free)
placed free at kept None are = tt
placed free at kept (Some place) are =
    let test : Bool = nat_le free place || nat_lt place (next_place kept) in
    elim test as (λ b. test ≡ b → IfOk (if b then Err (BadLine at) else Ok (kept ++ place ∷ [])) (ArePlaces free)) [
      | true ↦ λ e. tt
      | false ↦ λ e.
          let both = none_of (nat_le free place) (nat_lt place (next_place kept)) e in
          places-more free place kept are (ltb-false place (next_place kept) both.1) (leb-false free place both.0)
    ] refl

bound : {S E : Type 0} (P : S → Type 0) (r : Result S E) (next : S → Result S E) → IfOk r P → ((x : S) → P x → IfOk (next x) P) → IfOk (r >>= next) P
bound P (Ok x) next here more = more x here
bound P (Err e) next here more = tt

-- the places of lines, after others
pub lines_placed : (free at : ℕ) (kept : List ℕ) (lines : List (List ℕ)) → ArePlaces free kept → IfOk (read_lines (read_place free) at kept lines) (ArePlaces free)
unfolding read_lines
lines_placed free at kept [] are = are
lines_placed free at kept (line ∷ rest) are =
    bound (ArePlaces free) (read_place free at kept line) (λ more. read_lines (read_place free) (at + length line + 1) more rest) (placed free at kept (number_of line) are)
    (λ more now. lines_placed free (at + length line + 1) more rest now)

-- a fault of a line is one of the list
pub count_fails : {no_memory : StimError} (count end : ℕ) (r : Result (List ℕ) StimError) (e : StimError) → Fails no_memory e r → Fails no_memory e (r >>= counted count end)
count_fails count end r e (inl none) = inl none
count_fails count end r e (inr is) = inr (ap (λ (q : Result (List ℕ) StimError). q >>= counted count end) is)
