-- The item that has begun, beside the state of reading: what was read before it, its offset, and
-- the number of its bytes so far.
use Rattle.std.specs.Prelude.{ℕ, ◌≡◌, ◌+◌, ◌<◌, Bool, true, false, List, ◌++◌, length, Result, Ok, Err}
use Rattle.file_words.specs.declared.fault.ReadError.{ReadError}
use Rattle.file_words.specs.declared.fault.ReadError.TheVariants.{NoMemory}
use Rattle.file_words.specs.Answering.{Fails}
use Rattle.ascii_file.specs.declared.header.Header.{Header}
use Rattle.ascii_file.specs.declared.raw.Section.TheVariants.{Gates, Symbols}
use Rattle.ascii_file.specs.Raw.{Raw}
use Rattle.ascii_file.specs.Items.{begins_comment}
use Rattle.ascii_file.specs.Reading.{is_symbols}
use Rattle.ascii_file.specs.declared.parts.numbers.NumberLine.{NumberLine}
use Rattle.ascii_file.specs.declared.parts.symbols.SymbolLine.{SymbolLine}
use Rattle.ascii_file.specs.parts.Rows.{row_of}
use Rattle.ascii_file.specs.parts.Open.{numbers_with}
use Rattle.ascii_file.specs.parts.Symbols.{text_of, text_with}
use Rattle.binary_file.specs.Items.{next_section, next_gate}
use Rattle.binary_file.specs.Reading.{State, InLine, InFirst, InSecond, InComment, read_line}
use Rattle.binary_file.specs.Contents.{Contents, IsAt}
use Rattle.binary_file.specs.Taking.{Takes}
use Rattle.binary_file.specs.declared.opened.Opened.{Opened}
use Rattle.binary_file.specs.declared.opened.Opened.TheVariants.{Numbers, Symbol, First, Second, Comment}

-- the bytes are what has come of a line of numbers, of a symbol's line
abbrev pub IsNumbers : NumberLine → List ℕ → Type 0
IsNumbers line bytes = (rest : List ℕ) → numbers_with line rest ≡ row_of (bytes ++ rest)

abbrev pub IsText : SymbolLine → List ℕ → Type 0
IsText line bytes = (rest : List ℕ) → text_with line rest ≡ text_of (bytes ++ rest)

-- within a line of numbers that begins at `at`, of which the bytes up to `offset` have come
pub record IsInNumbers (c : Contents) (at offset : ℕ) (line : NumberLine) (state : State) : Type 0 where
  pub h : Header
  pub raw : Raw
  pub bytes : List ℕ
  pub is : state ≡ InLine h raw at bytes
  pub contents : IsAt c h raw
  pub section : is_symbols (next_section h raw) ≡ false
  pub line_is : IsNumbers line bytes
  pub place : at + length bytes ≡ offset

-- within the line of a symbol that begins at `at`, of which the bytes up to `offset` have come
pub record IsInSymbol (c : Contents) (at offset : ℕ) (line : SymbolLine) (state : State) : Type 0 where
  pub h : Header
  pub raw : Raw
  pub bytes : List ℕ
  pub is : state ≡ InLine h raw at bytes
  pub contents : IsAt c h raw
  pub section : next_section h raw ≡ Symbols
  pub line_is : IsText line bytes
  pub place : at + length bytes ≡ offset

-- within the first delta of a gate, which begins at `at`
pub record IsInFirst (c : Contents) (at offset : ℕ) (delta : List ℕ) (state : State) : Type 0 where
  pub h : Header
  pub raw : Raw
  pub is : state ≡ InFirst h raw at delta
  pub contents : IsAt c h raw
  pub section : next_section h raw ≡ Gates
  pub place : at + length delta ≡ offset

-- within the second delta of a gate, which begins at `at`, once the first gave the larger fan-in,
-- rhs0
pub record IsInSecond (c : Contents) (at offset rhs0 : ℕ) (delta : List ℕ) (state : State) : Type 0 where
  pub h : Header
  pub raw : Raw
  pub is : state ≡ InSecond h raw at rhs0 delta
  pub contents : IsAt c h raw
  pub section : next_section h raw ≡ Gates
  pub falls : rhs0 < next_gate h raw
  pub place : at + length delta ≡ offset

-- within the comment, after all symbols
pub record IsInComment (c : Contents) (state : State) : Type 0 where
  pub h : Header
  pub raw : Raw
  pub is : state ≡ InComment h raw
  pub contents : IsAt c h raw
  pub section : next_section h raw ≡ Symbols

-- reading stands in the item that has begun
abbrev pub IsOpened : Contents → ℕ → ℕ → Opened → State → Type 0
IsOpened c at offset (Numbers line) state = IsInNumbers c at offset line state
IsOpened c at offset (Symbol line) state = IsInSymbol c at offset line state
IsOpened c at offset (First delta) state = IsInFirst c at offset delta state
IsOpened c at offset (Second rhs0 delta) state = IsInSecond c at offset rhs0 delta state
IsOpened c at offset Comment state = IsInComment c state

-- a line after the gates was taken: whether it is a symbol's, and then the symbol
abbrev pub TakesText : Header → Contents → Raw → ℕ → List ℕ → Result Bool ReadError → Type 0
TakesText h new raw at bytes (Ok true) = (begins_comment bytes ≡ false) × Takes h new (Ok true) (read_line h raw at bytes)
TakesText h new raw at bytes (Ok false) = (begins_comment bytes ≡ true) × IsAt new h raw
TakesText h new raw at bytes (Err error) = (begins_comment bytes ≡ false) × Fails NoMemory error (read_line h raw at bytes)
