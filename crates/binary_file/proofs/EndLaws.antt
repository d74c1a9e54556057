-- Where lines end.
use Rattle.std.proofs.Common.{ℕ, ◌≡◌, ◌+◌, List, length, Result, Ok, true, false, ◌&&◌, ap, ◌∙◌}
use Rattle.std.proofs.lemmas.Bool.{cond-true, cond-false, and_from, and_left, and_right}
use Rattle.file_words.specs.declared.fault.ReadError.{ReadError}
use Rattle.file_words.specs.declared.fault.ReadError.TheVariants.{NoMemory}
use Rattle.file_words.specs.Answering.{◌>>=◌, Fails}
use Rattle.ascii_file.specs.declared.header.Header.{Header}
use Rattle.ascii_file.specs.Raw.{Raw}
use Rattle.ascii_file.specs.Items.{begins_comment}
use Rattle.ascii_file.specs.Reading.{is_symbols}
use Rattle.file_words.proofs.AnsweringLaws.{Fails-bind, Fails-as}
use Rattle.ascii_file.specs.declared.parts.numbers.NumberLine.{NumberLine}
use Rattle.ascii_file.specs.declared.parts.symbols.SymbolLine.{SymbolLine}
use Rattle.binary_file.specs.Items.{next_section}
use Rattle.binary_file.specs.Reading.{State, InLine, InComment, before_item, read_line, end_line, step}
use Rattle.binary_file.specs.Contents.{Contents}
use Rattle.binary_file.specs.Opened.{IsInNumbers, IsInSymbol}

-- a line that isn't the comment's is read, and the next item follows
pub item_line : (h : Header) (raw : Raw) (at : ℕ) (line : List ℕ) → (is_symbols (next_section h raw) && begins_comment line) ≡ false
    → end_line h raw at line ≡ (read_line h raw at line >>= λ more. Ok (before_item h more (at + length line + 1)))
unfolding end_line
item_line h raw at line e = cond-false (is_symbols (next_section h raw) && begins_comment line) (Ok (InComment h raw)) (read_line h raw at line >>= λ more. Ok (before_item h more (at + length line + 1))) e

-- a line after the gates that begins as the comment does begins it
pub comment_line : (h : Header) (raw : Raw) (at : ℕ) (line : List ℕ) → (is_symbols (next_section h raw) && begins_comment line) ≡ true → end_line h raw at line ≡ Ok (InComment h raw)
unfolding end_line
comment_line h raw at line e = cond-true (is_symbols (next_section h raw) && begins_comment line) (Ok (InComment h raw)) (read_line h raw at line >>= λ more. Ok (before_item h more (at + length line + 1))) e

-- the newline after an item's line
ended : (h : Header) (raw : Raw) (at offset : ℕ) (line : List ℕ) (state : State) → state ≡ InLine h raw at line → at + length line ≡ offset → (is_symbols (next_section h raw) && begins_comment line) ≡ false
    → step state 10 ≡ (read_line h raw at line >>= λ more. Ok (before_item h more (offset + 1)))
ended h raw at offset line state is place e =
    ap (λ (s : State). step s 10) is ∙ item_line h raw at line e ∙ ap (λ (n : ℕ). read_line h raw at line >>= λ more. Ok (before_item h more (n + 1))) place

module _ (h : Header) (raw more : Raw) (at offset after : ℕ) (line : List ℕ) (state : State) (is : state ≡ InLine h raw at line) (place : at + length line ≡ offset) (next : offset + 1 ≡ after)
    (item : (is_symbols (next_section h raw) && begins_comment line) ≡ false) where
  done : read_line h raw at line ≡ Ok more → step state 10 ≡ Ok (before_item h more after)
  done read =
      ended h raw at offset line state is place item ∙ ap (λ (r : Result Raw ReadError). r >>= λ more. Ok (before_item h more (offset + 1))) read ∙ ap (λ (n : ℕ). Ok (before_item h more n)) next

failed : (h : Header) (raw : Raw) (at offset : ℕ) (line : List ℕ) (state : State) (e : ReadError) → state ≡ InLine h raw at line → at + length line ≡ offset → (is_symbols (next_section h raw) && begins_comment line) ≡ false
    → Fails NoMemory e (read_line h raw at line) → Fails NoMemory e (step state 10)
failed h raw at offset line state e is place item fails =
    Fails-as e _ (step state 10) (ended h raw at offset line state is place item) (Fails-bind e (read_line h raw at line) (λ more. Ok (before_item h more (offset + 1))) fails)

-- of a line of numbers
module _ (c : Contents) (at offset : ℕ) (line : NumberLine) (state : State) (is : IsInNumbers c at offset line state) where
  -- the newline after a line of numbers that is read leads on to the next item
  pub numbers_done : (after : ℕ) (more : Raw) → offset + 1 ≡ after → read_line is.h is.raw at is.bytes ≡ Ok more → step state 10 ≡ Ok (before_item is.h more after)
  numbers_done after more next read = done is.h is.raw more at offset after is.bytes state is.is is.place next (and_left (is_symbols (next_section is.h is.raw)) (begins_comment is.bytes) is.section) read

  -- a fault of a line of numbers is the one that its newline brings
  pub numbers_failed : (e : ReadError) → Fails NoMemory e (read_line is.h is.raw at is.bytes) → Fails NoMemory e (step state 10)
  numbers_failed e fails = failed is.h is.raw at offset is.bytes state e is.is is.place (and_left (is_symbols (next_section is.h is.raw)) (begins_comment is.bytes) is.section) fails

-- of a line after the gates
module _ (c : Contents) (at offset : ℕ) (line : SymbolLine) (state : State) (is : IsInSymbol c at offset line state) where
  -- the newline after a symbol that is read leads on to the next item
  pub symbol_done : (after : ℕ) (more : Raw) → offset + 1 ≡ after → begins_comment is.bytes ≡ false → read_line is.h is.raw at is.bytes ≡ Ok more → step state 10 ≡ Ok (before_item is.h more after)
  symbol_done after more next begins read = done is.h is.raw more at offset after is.bytes state is.is is.place next (and_right (is_symbols (next_section is.h is.raw)) (begins_comment is.bytes) begins) read

  -- a fault of a symbol's line is the one that its newline brings
  pub symbol_failed : (e : ReadError) → begins_comment is.bytes ≡ false → Fails NoMemory e (read_line is.h is.raw at is.bytes) → Fails NoMemory e (step state 10)
  symbol_failed e begins fails = failed is.h is.raw at offset is.bytes state e is.is is.place (and_right (is_symbols (next_section is.h is.raw)) (begins_comment is.bytes) begins) fails

  -- the newline after a line that begins as the comment does leads into it
  pub comment_done : begins_comment is.bytes ≡ true → step state 10 ≡ Ok (InComment is.h is.raw)
  comment_done begins =
      ap (λ (s : State). step s 10) is.is ∙ comment_line is.h is.raw at is.bytes (and_from (is_symbols (next_section is.h is.raw)) (begins_comment is.bytes) (ap is_symbols is.section) begins)
