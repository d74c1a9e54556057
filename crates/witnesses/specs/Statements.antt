-- The lines of a witness: those that are no comments, each with the offset of its first byte.
use Rattle.std.specs.Prelude.{ℕ, ◌+◌, ◌-◌, ◌==◌, Bool, false, List, [], ◌∷◌, length, if◌then◌else◌}
use Rattle.file_words.specs.Lines.{lines}
use Rattle.file_words.specs.declared.lines.Lines.{Lines}

-- a line of a witness without its end, and its offset
pub record Statement : Type 0 where
  pub at : ℕ
  pub text : List ℕ

-- whether a line begins with c
abbrev pub is_comment_line : List ℕ → Bool
is_comment_line [] = false
is_comment_line (first ∷ rest) = first == 99

-- a line more in front, unless it is a comment
abbrev pub with_line : ℕ → List ℕ → List Statement → List Statement
with_line at text rest = if is_comment_line text then rest else record { at = at; text = text } ∷ rest

-- the lines from an offset on
unfoldable pub statements : ℕ → List (List ℕ) → List Statement
statements at [] = []
statements at (text ∷ rest) = with_line at text (statements (at + length text + 1) rest)

-- those that are left of a text
abbrev pub lines_left : ℕ → List ℕ → List Statement
lines_left end rest = statements (end - length rest) (lines rest)

abbrev pub left : Lines → List Statement
left l = lines_left l.end l.rest.now
