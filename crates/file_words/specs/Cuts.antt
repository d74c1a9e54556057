-- The first mark among bytes, a newline or a space, and the first line of a text.
use Rattle.std.specs.Prelude.{ℕ, ◌≡◌, ◌+◌, ◌<◌, ◌==◌, ◌⊎◌, Bool, not, true, List, [], ◌∷◌, ◌++◌, length}
use Rattle.std.specs.List.{list_all}
use Rattle.file_words.specs.Lines.{lines}

-- no byte is the mark
abbrev pub lacks : ℕ → List ℕ → Bool
lacks mark bytes = list_all (λ b. not (b == mark)) bytes

-- no byte is a newline
abbrev pub HasNoNewline : List ℕ → Type 0
HasNoNewline bytes = lacks 10 bytes ≡ true

-- the bytes up to the first mark, and those after it
pub record Cuts (mark : ℕ) (bytes part rest : List ℕ) : Type 0 where
  pub clean : lacks mark part ≡ true
  pub whole : bytes ≡ part ++ mark ∷ rest

-- the first line of a text, and what follows its newline, if anything does
pub record IsFirst (text line more : List ℕ) : Type 0 where
  pub shorter : length more < length text
  pub whole : lines text ≡ line ∷ lines more
  pub starts : (more ≡ []) ⊎ (length text ≡ length line + 1 + length more)
