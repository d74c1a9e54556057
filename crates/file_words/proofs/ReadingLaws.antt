-- A text that is read line by line: what is read of the lines that are left gives what is read of
-- all.
use Rattle.std.proofs.Common.{ℕ, ◌+◌, ◌-◌, ◌<◌, ◌≤◌, ◌≡◌, [], ◌∷◌, List, length, Result, Ok, refl, arith, sym, ap, ◌∙◌}
use Rattle.file_words.specs.Answering.{◌>>=◌, Fails}
use Rattle.file_words.specs.Cuts.{IsFirst}
use Rattle.file_words.specs.Lines.{lines}
use Rattle.file_words.specs.Reading.{read_lines}
use Rattle.file_words.proofs.AnsweringLaws.{Fails-where}
use Rattle.file_words.proofs.FirstLaws.{apart}

module _ {S E : Type 0} (read_line : ℕ → S → List ℕ → Result S E) where
  -- after the last line
  pub no_lines : (at : ℕ) (read : S) (rest : List ℕ) → rest ≡ [] → read_lines read_line at read (lines rest) ≡ Ok read
  unfolding read_lines lines
  no_lines at read rest none = ap (λ bytes. read_lines read_line at read (lines bytes)) none

  any_offset : (a b : ℕ) (read : S) (rest : List ℕ) → (0 < length rest → a ≡ b)
      → read_lines read_line a read (lines rest) ≡ read_lines read_line b read (lines rest)
  any_offset a b read [] same = no_lines a read [] refl ∙ sym (no_lines b read [] refl)
  any_offset a b read (byte ∷ rest) same = ap (λ (at : ℕ). read_lines read_line at read (lines (byte ∷ rest))) (same (omega arith))

  first_line : (at : ℕ) (read : S) (left line rest : List ℕ) → IsFirst left line rest
      → read_lines read_line at read (lines left) ≡ (read_line at read line >>= λ more. read_lines read_line (at + length line + 1) more (lines rest))
  unfolding read_lines
  first_line at read left line rest first = ap (read_lines read_line at read) first.whole

  -- a line that was read
  pub line_taken : (at end now : ℕ) (read more : S) (left line rest : List ℕ) → length left ≤ end → IsFirst left line rest → at ≡ end - length left → now ≡ end
      → read_line at read line ≡ Ok more
      → read_lines read_line (end - length left) read (lines left) ≡ read_lines read_line (now - length rest) more (lines rest)
  line_taken at end now read more left line rest within first here same taken =
      ap (λ (n : ℕ). read_lines read_line n read (lines left)) (sym here)
      ∙ first_line at read left line rest first
      ∙ ap (λ r. r >>= λ m. read_lines read_line (at + length line + 1) m (lines rest)) taken
      ∙ any_offset (at + length line + 1) (now - length rest) more rest (λ some. omega (arith, within, here, same, apart left line rest first some))

  -- a line with a fault
  pub line_fails : {no_memory : E} (at end : ℕ) (read : S) (left line rest : List ℕ) (whole : Result S E) (e : E) → IsFirst left line rest → at ≡ end - length left
      → whole ≡ read_lines read_line (end - length left) read (lines left) → Fails no_memory e (read_line at read line) → Fails no_memory e whole
  line_fails at end read left line rest whole e first here same fails =
      Fails-where e (read_line at read line) whole
      (λ is. same ∙ ap (λ (n : ℕ). read_lines read_line n read (lines left)) (sym here) ∙ first_line at read left line rest first
      ∙ ap (λ r. r >>= λ m. read_lines read_line (at + length line + 1) m (lines rest)) is) fails
