-- The lines of the version and the choice, and a file as a whole.
use Rattle.std.proofs.Common.{ℕ, ◌+◌, ◌-◌, ◌≤◌, ◌≡◌, ◌⊎◌, inl, inr, length, List, [], Option, Some, None, Result, Err, refl, arith, Bool, true, false, ◌==◌, cond, ap, ap₂, sym, ◌∙◌, subst, codes}
use Rattle.std.proofs.lemmas.Bool.{eqb-true, and_parts}
use Rattle.file_words.specs.Lines.{lines, is_word}
use Rattle.file_words.specs.Cuts.{IsFirst}
use Rattle.file_words.proofs.FirstLaws.{no_lines}
use Rattle.certificate_files.specs.declared.fault.CertError.{CertError}
use Rattle.certificate_files.specs.declared.fault.CertError.TheVariants.{BadHeader, BadLine, Truncated}
use Rattle.aig_graph.specs.declared.choice.Choice.{Choice}
use Rattle.aig_graph.specs.declared.choice.Choice.TheVariants.{Greatest}
use Rattle.certificate_files.specs.declared.file.CertFile.{CertFile}
use Rattle.certificate_files.specs.Files.{choice_in_line, only_part, read_after_choice, read_choice, read_chosen, read_file, read_text}
use Rattle.certificate_files.specs.Steps.{rest_after_choice, rest_chosen}
use Rattle.certificate_files.proofs.StepLaws.{same_start}
use Rattle.certificate_files.proofs.MergedLaws.{counted_start}

-- where the blocks begin, after a line
behind : (end : ℕ) (text line more : List ℕ) (at : ℕ) → IsFirst text line more → length text ≤ end → at ≡ end - length text → (more ≡ []) ⊎ (at + length line + 1 ≡ end - length more)
behind end text line more at first within here = by_case first.starts
  where
    by_case : (more ≡ []) ⊎ (length text ≡ length line + 1 + length more) → (more ≡ []) ⊎ (at + length line + 1 ≡ end - length more)
    by_case (inl none) = inl none
    by_case (inr long) = inr (omega (arith, long, within, here))

-- ---- the second line

-- the offset of the line after the choice doesn't matter if there is none
choice_start : (lists : Bool) (choice : Choice) (a end : ℕ) (more : List ℕ) → (more ≡ []) ⊎ (a ≡ end - length more)
    → read_after_choice lists choice a end (lines more) ≡ rest_after_choice lists choice end more
choice_start false choice a end more start = same_start a end more (only_part choice) start
choice_start true choice a end more start = counted_start choice a end more start

-- a file that ends before the choice is truncated
pub choice_missing : (lists : Bool) (at end : ℕ) (rest : List ℕ) → rest ≡ [] → read_choice lists at end (lines rest) ≡ Err (Truncated end)
choice_missing lists at end rest none = ap (read_choice lists at end) (ap lines none ∙ no_lines)

-- the offset of the line of the choice doesn't matter if there is none
chosen_start : (lists : Bool) (a end : ℕ) (more : List ℕ) → (more ≡ []) ⊎ (a ≡ end - length more) → read_choice lists a end (lines more) ≡ rest_chosen lists end more
chosen_start lists a end more (inl none) = choice_missing lists a end more none ∙ sym (choice_missing lists (end - length more) end more none)
chosen_start lists a end more (inr here) = ap (λ (n : ℕ). read_choice lists n end (lines more)) here

-- a second line that names a choice gives the file this choice, and the other lines follow
pub choice_chosen : (lists : Bool) (end : ℕ) (text line more : List ℕ) (choice : Choice) → IsFirst text line more → length text ≤ end → choice_in_line line ≡ Some choice
    → rest_chosen lists end text ≡ rest_after_choice lists choice end more
choice_chosen lists end text line more choice first within is =
    let at : ℕ = end - length text in
    ap (read_choice lists at end) first.whole ∙ ap (λ (o : Option Choice). read_chosen lists at end o (lines more) (length line)) is
    ∙ choice_start lists choice (at + length line + 1) end more (behind end text line more at first within refl)

-- a second line that names no choice is a fault of that line
pub choice_other : (lists : Bool) (at end : ℕ) (text line more : List ℕ) → IsFirst text line more → choice_in_line line ≡ None → read_choice lists at end (lines text) ≡ Err (BadLine at)
choice_other lists at end text line more first is =
    ap (read_choice lists at end) first.whole ∙ ap (λ (o : Option Choice). read_chosen lists at end o (lines more) (length line)) is

-- ---- the first line

-- a file without a line has a bad header
pub first_missing : (end : ℕ) (rest : List ℕ) → rest ≡ [] → read_file end (lines rest) ≡ Err (BadHeader 0)
first_missing end rest none = ap (read_file end) (ap lines none ∙ no_lines)

word_length : (text word : List ℕ) → is_word text word ≡ true → length word ≡ length text
word_length text word is = eqb-true (length word) (length text) (and_parts (length word == length text) _ is).0

abbrev by_words : Bool → Bool → Bool → ℕ → List (List ℕ) → Result CertFile CertError
by_words one two three end rest =
    cond one (read_after_choice false Greatest 15 end rest) (cond two (read_choice false 15 end rest) (cond three (read_choice true 15 end rest) (Err (BadHeader 0))))

by_first : (end : ℕ) (text line more : List ℕ) → IsFirst text line more
    → read_file end (lines text) ≡ by_words (is_word line (codes "fretime-cert 1")) (is_word line (codes "fretime-cert 2")) (is_word line (codes "fretime-cert 3")) end (lines more)
by_first end text line more first = ap (read_file end) first.whole

-- after the line of the first version the blocks follow, of greatest sets
pub first_version : (end : ℕ) (text line more : List ℕ) → IsFirst text line more → length text ≡ end → is_word line (codes "fretime-cert 1") ≡ true
    → read_file end (lines text) ≡ rest_after_choice false Greatest end more
first_version end text line more first whole is =
    by_first end text line more first
    ∙ ap (λ (one : Bool). by_words one (is_word line (codes "fretime-cert 2")) (is_word line (codes "fretime-cert 3")) end (lines more)) is
    ∙ same_start 15 end more (only_part Greatest) start
  where
    long : 14 ≡ length line
    long = word_length line (codes "fretime-cert 1") is

    start : (more ≡ []) ⊎ (15 ≡ end - length more)
    start = subst (λ (n : ℕ). (more ≡ []) ⊎ (n ≡ end - length more)) (omega (arith, long)) (behind end text line more 0 first (omega (arith, whole)) (omega (arith, whole)))

-- after a line of 14 bytes the next line, if there is one, begins at offset 15
second_start : (end : ℕ) (text line more word : List ℕ) → IsFirst text line more → length text ≡ end → is_word line word ≡ true → length word ≡ 14
    → (more ≡ []) ⊎ (15 ≡ end - length more)
second_start end text line more word first whole is fourteen =
    subst (λ (n : ℕ). (more ≡ []) ⊎ (n ≡ end - length more)) (omega (arith, long, fourteen)) (behind end text line more 0 first (omega (arith, whole)) (omega (arith, whole)))
  where
    long : length word ≡ length line
    long = word_length line word is

-- after the line of the second version the line of the choice follows
pub second_version : (end : ℕ) (text line more : List ℕ) → IsFirst text line more → length text ≡ end → is_word line (codes "fretime-cert 1") ≡ false
    → is_word line (codes "fretime-cert 2") ≡ true → read_file end (lines text) ≡ rest_chosen false end more
second_version end text line more first whole one is =
    by_first end text line more first
    ∙ ap₂ (λ (a b : Bool). by_words a b (is_word line (codes "fretime-cert 3")) end (lines more)) one is
    ∙ chosen_start false 15 end more (second_start end text line more (codes "fretime-cert 2") first whole is refl)

-- that of the third version too, and merged latches after it
pub third_version : (end : ℕ) (text line more : List ℕ) → IsFirst text line more → length text ≡ end → is_word line (codes "fretime-cert 1") ≡ false
    → is_word line (codes "fretime-cert 2") ≡ false → is_word line (codes "fretime-cert 3") ≡ true → read_file end (lines text) ≡ rest_chosen true end more
third_version end text line more first whole one two is =
    by_first end text line more first
    ∙ ap₂ (λ (a b : Bool). by_words a b (is_word line (codes "fretime-cert 3")) end (lines more)) one two
    ∙ ap (λ (three : Bool). by_words false false three end (lines more)) is
    ∙ chosen_start true 15 end more (second_start end text line more (codes "fretime-cert 3") first whole is refl)

-- a first line of no version is a bad header
pub no_version : (end : ℕ) (text line more : List ℕ) → IsFirst text line more → is_word line (codes "fretime-cert 1") ≡ false → is_word line (codes "fretime-cert 2") ≡ false
    → is_word line (codes "fretime-cert 3") ≡ false → read_file end (lines text) ≡ Err (BadHeader 0)
no_version end text line more first one two three =
    by_first end text line more first
    ∙ ap₂ (λ (a b : Bool). by_words a b (is_word line (codes "fretime-cert 3")) end (lines more)) one two
    ∙ ap (λ (c : Bool). by_words false false c end (lines more)) three

-- ---- the whole file

-- what is read of the lines of the whole text is what is read of the text
pub text_read : (end : ℕ) (rest bytes : List ℕ) → rest ≡ bytes → end ≡ length bytes → read_file end (lines rest) ≡ read_text bytes
unfolding read_text
text_read end rest bytes is long = ap₂ (λ (n : ℕ) (bs : List ℕ). read_file n (lines bs)) long is
