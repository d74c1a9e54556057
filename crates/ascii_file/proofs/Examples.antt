-- Files that are read, and files that are refused.
use Rattle.std.proofs.Common.{◌≡◌, ℕ, List, [], ◌∷◌, map, refl, Result, Ok, Err}
use Rattle.std.specs.Prelude.{codes}
use Rattle.std.specs.Fmt.{digits}
use Rattle.file_words.specs.declared.fault.ReadError.{ReadError}
use Rattle.file_words.specs.declared.fault.ReadError.TheVariants.{BadHeader, TooLarge, MaxIndex, BadLine, BadLiteral, DefinedTwice, Undefined, Cycle, BadReset, Truncated, BadSymbol, Trailing}
use Rattle.file_words.specs.Lines.{lines, pieces, numbers_of}
use Rattle.file_words.specs.Text.{text, latch_row, gate_row, symbol_line}
use Rattle.file_words.specs.Answering.{◌>>=◌}
use Rattle.counted_io.specs.Line.{line, spaced}
use Rattle.ascii_file.specs.order.Order.{may_follow, first_below, order_from}
use Rattle.ascii_file.specs.Headers.{header_of}
use Rattle.ascii_file.specs.Items.{item_of, begins_comment}
use Rattle.ascii_file.specs.Meaning.{props_of, symbols_of, circuit_of}
use Rattle.ascii_file.specs.Reading.{read_bytes, take_lines, read_line, read_header, next_section, is_resolved}

-- reading, and writing what was read
abbrev rewritten : List ℕ → Result (List ℕ) ReadError
rewritten bytes = read_bytes bytes >>= λ c. Ok (text c)

abbrev AreRewritten : List (List ℕ × List ℕ) → Type 0
AreRewritten table = map (λ (e : List ℕ × List ℕ). rewritten e.0) table ≡ map (λ (e : List ℕ × List ℕ). Ok e.1) table

abbrev AreRefused : List (List ℕ × ReadError) → Type 0
AreRefused table = map (λ (e : List ℕ × ReadError). read_bytes e.0) table ≡ map (λ (e : List ℕ × ReadError). Err e.1) table

-- all sections, symbols in any order and a comment; gates in any order; variables left out; leading
-- zeros and no last newline
accepted : AreRewritten (
    (codes "aag 5 2 2 1 1\n2\n4\n6 2\n8 4\n10\n10 6 8\n", codes "aag 5 2 2 1 1\n2\n4\n6 2\n8 4\n10\n10 8 6\n")
    ∷ (
      codes "aag 5 2 2 1 1 1 1 2 1\n2\n4\n6 2\n8 4\n10\n10\n3\n2\n0\n11\n4\n2\n10 6 8\nf0 fair\ni0 x\nl0 a\no0 out\nb0 bad\nc0 inv\nj0 live\nj1 none\nc\ntext\n",
      codes "aag 5 2 2 1 1 1 1 2 1\n2\n4\n6 2\n8 4\n10\n10\n3\n2\n0\n11\n4\n2\n10 8 6\ni0 x\nl0 a\no0 out\nb0 bad\nc0 inv\nj0 live\nj1 none\nf0 fair\n",
    )
    ∷ (codes "aag 4 2 0 1 2\n2\n4\n8\n8 6 3\n6 2 4\n", codes "aag 4 2 0 1 2\n2\n4\n8\n6 4 2\n8 6 3\n")
    ∷ (codes "aag 9 1 0 1 1\n6\n18\n18 7 6\n", codes "aag 2 1 0 1 1\n2\n4\n4 3 2\n")
    ∷ (codes "aag 1 1 0 0 0 1 0 0 0\n2\n2\n", codes "aag 1 1 0 0 0 1\n2\n2\n")
    ∷ (codes "aag 0 0 0 0 0\ncn text\n", codes "aag 0 0 0 0 0\n")
    ∷ (codes "aag 2 2 0 0 0\n2\n4\ni1 b\ni0 \nc", codes "aag 2 2 0 0 0\n2\n4\ni0 \ni1 b\n")
    ∷ (codes "aag 4 1 3 1 0\n2\n4 2 4\n6 2 1\n8 4 0\n9\n", codes "aag 4 1 3 1 0\n2\n4 2 4\n6 2 1\n8 4\n9\n") ∷ (codes "aag 268435455 0 0 0 0", codes "aag 0 0 0 0 0\n")
    ∷ (codes "aag 01 1 0 1 0\n2\n02", codes "aag 1 1 0 1 0\n2\n2\n") ∷ [])
unfolding read_bytes take_lines read_line read_header next_section is_resolved lines pieces numbers_of header_of item_of begins_comment circuit_of props_of symbols_of may_follow first_below order_from text latch_row gate_row symbol_line line spaced digits
accepted = refl

-- files with a fault each
refused : AreRefused (
    ([], BadHeader 0) ∷ (codes "aag 1 1  0 1 0\n", BadHeader 0) ∷ (codes "aag 1 1 0 1 0 \n", BadHeader 0) ∷ (codes "aag 2 2 0 0 0\n2\n\n", BadLine 16) ∷ (codes "aag 0 0 0 0\n", BadHeader 0) ∷ (codes "aig 0 0 0 0 0\n", BadHeader 0) ∷ (codes "aag 0 0 0 0 0 0 0 0 0 0\n", BadHeader 0)
    ∷ (codes "aag 1 0 0 1 1\n2\n2 2 3\n", Cycle) ∷ (codes "aag 2 1 0 1 0\n2\n4\n", Undefined) ∷ (codes "aag 2 2 0 0 0\n2\n2\n", DefinedTwice 16)
    ∷ (codes "aag 1 0 1 0 0\n2 0 3\n", BadReset 14) ∷ (codes "aag 1 1 0 1 0\n2\n4\n", MaxIndex 16) ∷ (codes "aag 1 1 1 0 0\n", MaxIndex 0) ∷ (codes "aag 1 1 0 0 0\n3\n", BadLiteral 14)
    ∷ (codes "aag 1 1 0 1 0\n2\n", Truncated 16) ∷ (codes "aag 0 0 0 0 0\nx\n", Trailing 14) ∷ (codes "aag 0 0 0 0 0\n\n", Trailing 14) ∷ (codes "aag 0 0 0 0 0\ni0 a\n", BadSymbol 14)
    ∷ (codes "aag 1 1 0 0 0\n2\ni0 a\ni0 b\n", BadSymbol 21) ∷ (codes "aag 1 1 0 0 0\n2\ni0\n", BadSymbol 16) ∷ (codes "aag 0 0 0 0 0\nc1 a\n", BadSymbol 14)
    ∷ (codes "aag 0 0 0 0 0 0 0 2\n16777216\n1\n", TooLarge 29) ∷ (codes "aag 0 0 0 0 0 0 0 1\n16777217\n", TooLarge 20) ∷ (codes "aag 0 0 0 0 0 0 0 1\n16777216\n", Truncated 29) ∷ [])
unfolding read_bytes take_lines read_line read_header next_section is_resolved lines pieces numbers_of header_of item_of begins_comment may_follow first_below order_from
refused = refl

-- two faults in one item, or in two: the first one is given
first_faults : AreRefused (
    (codes "aag 268435456 0 0 0 0 0 0 0 0 0\n", BadHeader 0) ∷ (codes "aag 0 1 0 16777217 0\n", TooLarge 0) ∷ (codes "aag 0 1 0 0 0 16777217\n", TooLarge 0) ∷ (codes "aag 1 1 0 0 0\n5\n", MaxIndex 14)
    ∷ (codes "aag 2 2 0 0 0\n2\n3\n", BadLiteral 16) ∷ (codes "aag 1 0 1 0 0\n3 4\n", MaxIndex 14) ∷ (codes "aag 1 0 1 0 0\n2 5 3\n", MaxIndex 14) ∷ (codes "aag 1 0 1 0 0\n3 0 9\n", BadLiteral 14)
    ∷ (codes "aag 2 1 1 0 0\n2\n2 0 3\n", DefinedTwice 16) ∷ (codes "aag 1 0 1 0 0\n2 0 99\n", BadReset 14) ∷ (codes "aag 1 1 0 0 0\n9 9\n", BadLine 14)
    ∷ (codes "aag 1 0 0 1 0\n2\n\n", Trailing 16) ∷ (codes "aag 2 1 0 2 0\n2\n4\n", Truncated 18) ∷ (codes "aag 1 1 0 1 1\n2\n4\n", MaxIndex 0)
    ∷ (codes "aag 2 0 0 1 1\n4\n2 2 4\n", Undefined) ∷ [])
unfolding read_bytes take_lines read_line read_header next_section is_resolved lines pieces numbers_of header_of item_of begins_comment may_follow first_below order_from
first_faults = refl
