-- Lines by their numbers, as 32 bits hold them.
use Rattle.std.proofs.Common.{ℕ, ◌+◌, ◌*◌, ◌^◌, ◌<◌, ◌≤◌, ◌≡◌, inl, inr, length, List, [], ◌∷◌, map, Option, Some, None, Result, Ok, Err, refl, arith, Bool, true, false, not, ◌||◌, cond, nat_eq, nat_lt, nat_le, ap, sym, subst, ◌∙◌}
use Rattle.std.specs.List.{sum}
use Rattle.std.specs.Option.{option_and_then}
use Rattle.std.proofs.lemmas.Bool.{cases_lt, cases_eq, eq-eqb, ne_eqb, lt-ltb, le-ltb}
use Rattle.std.proofs.lemmas.List.{map_push}
use Rattle.aig_graph.specs.declared.graph.Latch.{Latch}
use Rattle.aig_graph.specs.declared.graph.Reset.{Reset}
use Rattle.aig_graph.specs.declared.graph.Reset.TheVariants.{Zero, One, Free}
use Rattle.file_words.specs.declared.fault.ReadError.{ReadError}
use Rattle.file_words.specs.declared.fault.ReadError.TheVariants.{TooLarge, MaxIndex, BadLine, BadReset}
use Rattle.file_words.specs.Lines.{numbers_of}
use Rattle.file_words.specs.Answering.{◌>>=◌}
use Rattle.ascii_file.specs.declared.header.Header.{Header}
use Rattle.ascii_file.specs.declared.raw.RawLatch.{RawLatch}
use Rattle.ascii_file.specs.declared.raw.Section.{Section}
use Rattle.ascii_file.specs.declared.raw.Section.TheVariants.{Inputs, Latches, Safety, Sizes, Liveness, Gates, Symbols}
use Rattle.ascii_file.specs.Raw.{Raw}
use Rattle.ascii_file.specs.Items.{Item, LatchItem, SafetyItem, SizeItem, LivenessItem, single, item_of}
use Rattle.ascii_file.specs.Meaning.{reset_of}
use Rattle.ascii_file.specs.Reading.{past_greatest, is_bad_reset, with_item, malformed, is_symbols}
use Rattle.ascii_file.specs.parts.Rows.{clamped, up_to_nine, row_of}
use Rattle.binary_file.specs.Headers.{IsHeaderWithin}
use Rattle.binary_file.specs.Items.{next_section, next_latch, latch_in, item_in}
use Rattle.binary_file.specs.Reading.{take_item, read_line}
use Rattle.binary_file.specs.Contents.{Contents, latch_as_listed, contents_of, IsAt, section_to_fill, latch_literal}
use Rattle.binary_file.specs.ReaderItems.{with_latch, with_size, literal_within, safety_taken, size_taken, liveness_taken, reset_in, latch_with, latch_taken}
use Rattle.binary_file.proofs.ContentsLaws.{section_is, latch_literal_is, latch_room}
use Rattle.binary_file.proofs.TakingLaws.{Agrees}

-- ---- the numbers of a line

same_list : (a b : List ℕ) → ◌≡◌ {A = Option (List ℕ)} (Some a) (Some b) → a ≡ b
same_list a b e = cc

-- numbers that are at most nine are all of the line's
at_most_nine : (found : Option (List ℕ)) (ns : List ℕ) → option_and_then (λ ms. up_to_nine (map clamped ms)) found ≡ Some ns → (all : List ℕ) × (found ≡ Some all) × (ns ≡ map clamped all)
at_most_nine None ns e = absurd cc
at_most_nine (Some all) ns e = (all, refl, by_test (nat_le (length (map clamped all)) 9) e)
  where
    by_test : (test : Bool) → cond test (Some (map clamped all)) None ≡ Some ns → ns ≡ map clamped all
    by_test true e = sym (same_list (map clamped all) ns e)
    by_test false e = absurd cc

-- the numbers of a line as 32 bits hold them are all of its numbers, each cut
pub all_numbers : (line ns : List ℕ) → row_of line ≡ Some ns → (all : List ℕ) × (numbers_of line ≡ Some all) × (ns ≡ map clamped all)
unfolding row_of
all_numbers line ns e = at_most_nine (numbers_of line) ns e

-- ---- one number

module _ (h : Header) (at : ℕ) (small : h.greatest < 2 ^ 28) where
  -- a literal of the line, and what follows if it is in range
  literal_step : (n : ℕ) (f : ℕ → Result Contents ReadError) (read : Result Raw ReadError) → (n ≤ 2 * h.greatest + 1 → Agrees h (f n) read)
      → Agrees h (literal_within h at (clamped n) >>= f) (cond (past_greatest h (n ∷ [])) (Err (MaxIndex at)) read)
  literal_step n f read later = elim (cases_lt (2 * h.greatest + 1) n) [
    | inl past ↦ outside (nat_lt (2 * h.greatest + 1) (clamped n)) (nat_lt (2 * h.greatest + 1) n) (lt-ltb _ _ (omega (arith, past, small))) (lt-ltb _ _ past)
    | inr within ↦ inside (nat_lt (2 * h.greatest + 1) (clamped n)) (nat_lt (2 * h.greatest + 1) n) (clamped n) (le-ltb _ _ (omega (arith, within, small))) (le-ltb _ _ within) (omega (arith, within, small)) (later within)
  ]
    where
      outside : (a b : Bool) → a ≡ true → b ≡ true → Agrees h (cond a (Err (MaxIndex at)) (Ok (clamped n)) >>= f) (cond (b || false) (Err (MaxIndex at)) read)
      outside true true e d = refl
      outside false b e d = absurd cc
      outside true false e d = absurd cc

      inside : (a b : Bool) (m : ℕ) → a ≡ false → b ≡ false → m ≡ n → Agrees h (f n) read → Agrees h (cond a (Err (MaxIndex at)) (Ok m) >>= f) (cond (b || false) (Err (MaxIndex at)) read)
      inside false false m e d same agrees = subst (λ (k : ℕ). Agrees h (f k) read) (sym same) agrees
      inside true b m e d same agrees = absurd cc
      inside false true m e d same agrees = absurd cc

  module _ (raw : Raw) where
    safety_agrees : (all : List ℕ) → Agrees h (safety_taken (contents_of h raw) at (map clamped all)) (take_item h raw at (BadLine at) (single SafetyItem all))
    safety_agrees [] = refl
    safety_agrees (n ∷ []) = literal_step n (λ lit. Ok (contents_of h (with_item raw (SafetyItem lit)))) (Ok (with_item raw (SafetyItem n))) (λ within. (with_item raw (SafetyItem n), refl, refl))
    safety_agrees (n ∷ m ∷ rest) = refl

    liveness_agrees : (all : List ℕ) → Agrees h (liveness_taken (contents_of h raw) at (map clamped all)) (take_item h raw at (BadLine at) (single LivenessItem all))
    liveness_agrees [] = refl
    liveness_agrees (n ∷ []) = literal_step n (λ lit. Ok (contents_of h (with_item raw (LivenessItem lit)))) (Ok (with_item raw (LivenessItem n))) (λ within. (with_item raw (LivenessItem n), refl, refl))
    liveness_agrees (n ∷ m ∷ rest) = refl

    -- a size, with the sum of those before it
    size_step : (n : ℕ) → Agrees h (cond (nat_lt (2 ^ 24) (sum raw.sizes + clamped n)) (Err (TooLarge at)) (Ok (with_size (contents_of h raw) (clamped n))))
        (cond (nat_lt (2 ^ 24) (sum raw.sizes + n)) (Err (TooLarge at)) (Ok (with_item raw (SizeItem n))))
    size_step n = elim (cases_lt (2 ^ 24) (sum raw.sizes + n)) [
      | inl past ↦ outside (nat_lt (2 ^ 24) (sum raw.sizes + clamped n)) (nat_lt (2 ^ 24) (sum raw.sizes + n)) (lt-ltb _ _ (omega (arith, past))) (lt-ltb _ _ past)
      | inr within ↦ inside (nat_lt (2 ^ 24) (sum raw.sizes + clamped n)) (nat_lt (2 ^ 24) (sum raw.sizes + n)) (clamped n) (le-ltb _ _ (omega (arith, within))) (le-ltb _ _ within) (omega (arith, within))
    ]
      where
        outside : (a b : Bool) → a ≡ true → b ≡ true → Agrees h (cond a (Err (TooLarge at)) (Ok (with_size (contents_of h raw) (clamped n)))) (cond b (Err (TooLarge at)) (Ok (with_item raw (SizeItem n))))
        outside true true e d = refl
        outside false b e d = absurd cc
        outside true false e d = absurd cc

        inside : (a b : Bool) (m : ℕ) → a ≡ false → b ≡ false → m ≡ n → Agrees h (cond a (Err (TooLarge at)) (Ok (with_size (contents_of h raw) m))) (cond b (Err (TooLarge at)) (Ok (with_item raw (SizeItem n))))
        inside false false m e d same = (with_item raw (SizeItem n), refl, ap (with_size (contents_of h raw)) same)
        inside true b m e d same = absurd cc
        inside false true m e d same = absurd cc

    size_agrees : (all : List ℕ) → Agrees h (size_taken (contents_of h raw) at (map clamped all)) (take_item h raw at (BadLine at) (single SizeItem all))
    size_agrees [] = refl
    size_agrees (n ∷ []) = size_step n
    size_agrees (n ∷ m ∷ rest) = refl

    -- ---- a latch

    equals-clamped : (n k : ℕ) → k < 2 ^ 30 → nat_eq (clamped n) k ≡ nat_eq n k
    equals-clamped n k fits = elim (cases_eq n k) [
      | inl same ↦ eq-eqb (clamped n) k (omega (arith, same, fits)) ∙ sym (eq-eqb n k same)
      | inr apart ↦ ne_eqb (clamped n) k (λ e. apart (omega (arith, e, fits))) ∙ sym (ne_eqb n k apart)
    ]

    reset_in-clamped : (current n : ℕ) → current < 2 ^ 30 → reset_in current (clamped n) ≡ reset_in current n
    reset_in-clamped current n fits =
        let zero? = equals-clamped n 0 (omega arith) in
        let one? = equals-clamped n 1 (omega arith) in
        let own? = equals-clamped n current fits in
        cc

    -- the reset, if it is one
    reset_step : (latch : RawLatch)
        → Agrees h (latch_with (contents_of h raw) at latch.next (reset_in latch.current latch.reset)) (cond (is_bad_reset latch) (Err (BadReset at)) (Ok (with_item raw (LatchItem latch))))
    reset_step latch = by_tests (nat_eq latch.reset 0) (nat_eq latch.reset 1) (nat_eq latch.reset latch.current) refl refl
      where
        taken : (reset : Reset) → reset_of latch.reset ≡ reset → Agrees h (Ok (with_latch (contents_of h raw) (record { next = latch.next; reset = reset }))) (Ok (with_item raw (LatchItem latch)))
        taken reset is = (
          with_item raw (LatchItem latch),
          refl,
          ap (λ (r : Reset). with_latch (contents_of h raw) (record { next = latch.next; reset = r })) (sym is)
              ∙ ap (λ (latches : List Latch). record (contents_of h raw) { latches = latches }) (sym (map_push latch_as_listed raw.latches latch)),
        )

        by_tests : (a b d : Bool) → nat_eq latch.reset 0 ≡ a → nat_eq latch.reset 1 ≡ b
            → Agrees h (latch_with (contents_of h raw) at latch.next (cond a (Some Zero) (cond b (Some One) (cond d (Some Free) None)))) (cond (not (a || b || d)) (Err (BadReset at)) (Ok (with_item raw (LatchItem latch))))
        by_tests true b d zero? one? = taken Zero (ap (λ (t : Bool). cond t Zero (cond (nat_eq latch.reset 1) One Free)) zero?)
        by_tests false true d zero? one? = taken One (ap (λ (t : Bool). cond t Zero (cond (nat_eq latch.reset 1) One Free)) zero? ∙ ap (λ (t : Bool). cond t One Free) one?)
        by_tests false false true zero? one? = taken Free (ap (λ (t : Bool). cond t Zero (cond (nat_eq latch.reset 1) One Free)) zero? ∙ ap (λ (t : Bool). cond t One Free) one?)
        by_tests false false false zero? one? = refl

    latch_step : (n reset : ℕ) → next_latch h raw < 2 ^ 30
        → Agrees h (literal_within h at (clamped n) >>= λ lit. latch_with (contents_of h raw) at lit (reset_in (next_latch h raw) (clamped reset)))
        (take_item h raw at (BadLine at) (Some (LatchItem (record { current = next_latch h raw; next = n; reset = reset }))))
    latch_step n reset fits =
        literal_step n (λ lit. latch_with (contents_of h raw) at lit (reset_in (next_latch h raw) (clamped reset)))
        (cond (is_bad_reset (record { current = next_latch h raw; next = n; reset = reset })) (Err (BadReset at)) (Ok (with_item raw (LatchItem (record { current = next_latch h raw; next = n; reset = reset })))))
        (λ within. subst (λ (r : Option Reset). Agrees h (latch_with (contents_of h raw) at n r) (cond (is_bad_reset (record { current = next_latch h raw; next = n; reset = reset })) (Err (BadReset at)) (Ok (with_item raw (LatchItem (record { current = next_latch h raw; next = n; reset = reset }))))))
        (sym (reset_in-clamped (next_latch h raw) reset fits)) (reset_step (record { current = next_latch h raw; next = n; reset = reset })))

    latch_agrees : (all : List ℕ) → next_latch h raw < 2 ^ 30 → Agrees h (latch_taken (contents_of h raw) at (map clamped all)) (take_item h raw at (BadLine at) (latch_in (next_latch h raw) all))
    latch_agrees [] fits = refl
    latch_agrees (n ∷ []) fits =
        subst (λ (current : ℕ). Agrees h (literal_within h at (clamped n) >>= λ lit. latch_with (contents_of h raw) at lit (reset_in current 0)) (take_item h raw at (BadLine at) (latch_in (next_latch h raw) (n ∷ []))))
        (sym (latch_literal_is (contents_of h raw) h raw refl)) (latch_step n 0 fits)
    latch_agrees (n ∷ m ∷ []) fits =
        subst (λ (current : ℕ). Agrees h (literal_within h at (clamped n) >>= λ lit. latch_with (contents_of h raw) at lit (reset_in current (clamped m))) (take_item h raw at (BadLine at) (latch_in (next_latch h raw) (n ∷ m ∷ []))))
        (sym (latch_literal_is (contents_of h raw) h raw refl)) (latch_step n m fits)
    latch_agrees (n ∷ m ∷ k ∷ rest) fits = refl

-- ---- the line of a section

-- what reading a line of a section is
abbrev by_section : Header → Raw → ℕ → List ℕ → Section → Result Raw ReadError
by_section h raw at line section = take_item h raw at (malformed section at line) (item_in h raw section line)

-- by the numbers of the line, if they are all there
by_numbers : (h : Header) (raw : Raw) (at : ℕ) (line ns : List ℕ) (form : List ℕ → Option Item) (taken : Contents → ℕ → List ℕ → Result Contents ReadError)
    → row_of line ≡ Some ns → ((all : List ℕ) → Agrees h (taken (contents_of h raw) at (map clamped all)) (take_item h raw at (BadLine at) (form all)))
    → Agrees h (taken (contents_of h raw) at ns) (take_item h raw at (BadLine at) (option_and_then form (numbers_of line)))
by_numbers h raw at line ns form taken row agrees =
    let numbers = all_numbers line ns row in
    subst (λ (ms : List ℕ). Agrees h (taken (contents_of h raw) at ms) (take_item h raw at (BadLine at) (option_and_then form (numbers_of line)))) (sym numbers.2)
    (subst (λ (found : Option (List ℕ)). Agrees h (taken (contents_of h raw) at (map clamped numbers.0)) (take_item h raw at (BadLine at) (option_and_then form found))) (sym numbers.1) (agrees numbers.0))

module _ (c : Contents) (h : Header) (raw : Raw) (at : ℕ) (line : List ℕ) (is : IsAt c h raw) (within : IsHeaderWithin h) where
  small : h.greatest < 2 ^ 28
  small = let most = within.greatest in omega (arith, most)

  -- reading, by the section of the contents
  in_section : (section : Section) → section_to_fill c ≡ section → next_section h raw ≡ section
  in_section section here = sym (section_is c h raw is) ∙ here

  -- a line of a section whose items have the form
  by_form : (section : Section) (form : List ℕ → Option Item) (taken : Contents → ℕ → List ℕ → Result Contents ReadError) (ns : List ℕ) → section_to_fill c ≡ section → row_of line ≡ Some ns
      → by_section h raw at line section ≡ take_item h raw at (BadLine at) (option_and_then form (numbers_of line))
      → ((all : List ℕ) → Agrees h (taken (contents_of h raw) at (map clamped all)) (take_item h raw at (BadLine at) (form all))) → Agrees h (taken c at ns) (by_section h raw at line (next_section h raw))
  by_form section form taken ns here row formed agrees =
      subst (λ (d : Contents). Agrees h (taken d at ns) (by_section h raw at line (next_section h raw))) (sym is)
      (subst (λ (s : Section). Agrees h (taken (contents_of h raw) at ns) (by_section h raw at line s)) (sym (in_section section here))
      (subst (Agrees h (taken (contents_of h raw) at ns)) (sym formed) (by_numbers h raw at line ns form taken row agrees)))

  -- the line of an output, a bad state or a constraint is taken as reading takes it
  pub line_safety : (ns : List ℕ) → section_to_fill c ≡ Safety → row_of line ≡ Some ns → Agrees h (safety_taken c at ns) (read_line h raw at line)
  unfolding read_line item_of
  line_safety ns here row = by_form Safety (single SafetyItem) safety_taken ns here row refl (safety_agrees h at small raw)

  -- the line of a justice or a fairness literal is taken as reading takes it
  pub line_liveness : (ns : List ℕ) → section_to_fill c ≡ Liveness → row_of line ≡ Some ns → Agrees h (liveness_taken c at ns) (read_line h raw at line)
  unfolding read_line item_of
  line_liveness ns here row = by_form Liveness (single LivenessItem) liveness_taken ns here row refl (liveness_agrees h at small raw)

  -- the line of a justice property's size is taken as reading takes it
  pub line_size : (ns : List ℕ) → section_to_fill c ≡ Sizes → row_of line ≡ Some ns → Agrees h (size_taken c at ns) (read_line h raw at line)
  unfolding read_line item_of
  line_size ns here row = by_form Sizes (single SizeItem) size_taken ns here row refl (size_agrees h at small raw)

  -- the line of a latch is taken as reading takes it
  pub line_latch : (ns : List ℕ) → section_to_fill c ≡ Latches → row_of line ≡ Some ns → Agrees h (latch_taken c at ns) (read_line h raw at line)
  unfolding read_line
  line_latch ns here row =
      let room : length c.latches < c.header.latches = latch_room c here in
      let literal : latch_literal c ≡ next_latch h raw = latch_literal_is c h raw is in
      let header : c.header ≡ h = ap (λ (d : Contents). d.header) is in
      let total = within.total in
      let most = within.greatest in
      let latches : c.header.latches ≡ h.latches = ap (λ (g : Header). g.latches) header in
      let inputs : c.header.inputs ≡ h.inputs = ap (λ (g : Header). g.inputs) header in
      let fits : next_latch h raw < 2 ^ 30 = omega (arith, room, literal, latches, inputs, total, most) in
      by_form Latches (latch_in (next_latch h raw)) latch_taken ns here row refl (λ all. latch_agrees h at small raw all fits)

-- a line that isn't at most nine numbers
module _ (h : Header) (raw : Raw) (at : ℕ) (line : List ℕ) where
  not_nine : (found : Option (List ℕ)) → option_and_then (λ ms. up_to_nine (map clamped ms)) found ≡ None → (form : List ℕ → Option Item)
      → ((a b d : ℕ) (rest : List ℕ) → form (a ∷ b ∷ d ∷ rest) ≡ None) → option_and_then form found ≡ None
  not_nine None e form long = refl
  not_nine (Some []) e form long = absurd cc
  not_nine (Some (a ∷ [])) e form long = absurd cc
  not_nine (Some (a ∷ b ∷ [])) e form long = absurd cc
  not_nine (Some (a ∷ b ∷ d ∷ rest)) e form long = long a b d rest

  -- none of a section of lines, or a line of gates
  refused : (section : Section) → is_symbols section ≡ false → row_of line ≡ None → by_section h raw at line section ≡ Err (BadLine at)
  unfolding row_of item_of
  refused Inputs other e = refl
  refused Latches other e = ap (take_item h raw at (BadLine at)) (not_nine (numbers_of line) e (latch_in (next_latch h raw)) (λ a b d rest. refl))
  refused Safety other e = ap (take_item h raw at (BadLine at)) (not_nine (numbers_of line) e (single SafetyItem) (λ a b d rest. refl))
  refused Sizes other e = ap (take_item h raw at (BadLine at)) (not_nine (numbers_of line) e (single SizeItem) (λ a b d rest. refl))
  refused Liveness other e = ap (take_item h raw at (BadLine at)) (not_nine (numbers_of line) e (single LivenessItem) (λ a b d rest. refl))
  refused Gates other e = refl
  refused Symbols other e = absurd cc

  -- a line before the symbols that isn't at most nine numbers is a fault
  pub line_refused : is_symbols (next_section h raw) ≡ false → row_of line ≡ None → read_line h raw at line ≡ Err (BadLine at)
  unfolding read_line
  line_refused other e = refused (next_section h raw) other e

  -- inputs and gates have no lines
  without_lines : (section : Section) → (section ≡ Latches → ⊥) → (section ≡ Safety → ⊥) → (section ≡ Sizes → ⊥) → (section ≡ Liveness → ⊥) → is_symbols section ≡ false
      → by_section h raw at line section ≡ Err (BadLine at)
  without_lines Inputs a b d e f = refl
  without_lines Latches a b d e f = absurd (a refl)
  without_lines Safety a b d e f = absurd (b refl)
  without_lines Sizes a b d e f = absurd (d refl)
  without_lines Liveness a b d e f = absurd (e refl)
  without_lines Gates a b d e f = refl
  without_lines Symbols a b d e f = absurd cc

  -- if inputs or gates come next, any line is a fault
  pub no_lines : (next_section h raw ≡ Latches → ⊥) → (next_section h raw ≡ Safety → ⊥) → (next_section h raw ≡ Sizes → ⊥) → (next_section h raw ≡ Liveness → ⊥) → is_symbols (next_section h raw) ≡ false
      → read_line h raw at line ≡ Err (BadLine at)
  unfolding read_line
  no_lines a b d e f = without_lines (next_section h raw) a b d e f
