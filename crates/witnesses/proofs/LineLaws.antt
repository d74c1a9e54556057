-- The lines that are left of a text.
use Rattle.std.proofs.Common.{ℕ, ◌+◌, ◌-◌, ◌<◌, ◌≤◌, ◌≡◌, ◌∷◌, [], List, true, false, length, refl, arith, sym, ap, ◌∙◌}
use Rattle.std.proofs.lemmas.Bool.{cond-true, cond-false}
use Rattle.file_words.specs.Cuts.{IsFirst}
use Rattle.file_words.specs.Lines.{lines}
use Rattle.file_words.proofs.FirstLaws.{apart}
use Rattle.witnesses.specs.Statements.{Statement, is_comment_line, with_line, statements, lines_left}

-- after the last line
pub none_left : (end : ℕ) (rest : List ℕ) → rest ≡ [] → lines_left end rest ≡ []
unfolding statements lines
none_left end rest none = ap (lines_left end) none

any_offset : (a b : ℕ) (rest : List ℕ) → (0 < length rest → a ≡ b) → statements a (lines rest) ≡ statements b (lines rest)
unfolding statements lines
any_offset a b [] same = refl
any_offset a b (byte ∷ rest) same = ap (λ (at : ℕ). statements at (lines (byte ∷ rest))) (same (omega arith))

-- the first line
pub first_left : (at end now : ℕ) (text line more : List ℕ) → length text ≤ end → (at ≡ end - length text) × IsFirst text line more → now ≡ end
    → lines_left end text ≡ with_line at line (lines_left now more)
unfolding statements
first_left at end now text line more within (here, first) same =
    ap (λ (n : ℕ). statements n (lines text)) (sym here)
    ∙ ap (statements at) first.whole
    ∙ ap (with_line at line) (any_offset (at + length line + 1) (now - length more) more (λ some. omega (arith, within, here, same, apart text line more first some)))

-- a line that is a comment, and one that isn't
pub comment_left : (at : ℕ) (text : List ℕ) (rest : List Statement) → is_comment_line text ≡ true → with_line at text rest ≡ rest
comment_left at text rest is = cond-true (is_comment_line text) rest (record { at = at; text = text } ∷ rest) is

-- a line that is no comment is the first statement of those that are left
pub statement_left : (at : ℕ) (text : List ℕ) (rest : List Statement) → is_comment_line text ≡ false → with_line at text rest ≡ record { at = at; text = text } ∷ rest
statement_left at text rest isnt = cond-false (is_comment_line text) rest (record { at = at; text = text } ∷ rest) isnt
