-- Binary files that are read, and such as are refused.
use Rattle.std.proofs.Common.{◌≡◌, ℕ, List, [], ◌∷◌, ◌++◌, map, refl, Result, Ok, Err}
use Rattle.std.specs.Prelude.{codes}
use Rattle.std.specs.Fmt.{digits}
use Rattle.file_words.specs.declared.fault.ReadError.{ReadError}
use Rattle.file_words.specs.declared.fault.ReadError.TheVariants.{BadHeader, TooLarge, MaxIndex, BadLine, BadReset, BadDelta, Truncated, BadSymbol, Trailing}
use Rattle.file_words.specs.Lines.{pieces, numbers_of}
use Rattle.file_words.specs.Text.{text, latch_row, gate_row, symbol_line}
use Rattle.file_words.specs.Answering.{◌>>=◌}
use Rattle.counted_io.specs.Line.{line, spaced}
use Rattle.binary_file.specs.Deltas.{delta_value, delta_of, bytes_within}
use Rattle.ascii_file.specs.Raw.{nothing_yet}
use Rattle.ascii_file.specs.Items.{item_of, begins_comment}
use Rattle.ascii_file.specs.Meaning.{props_of, symbols_of}
use Rattle.ascii_file.specs.Reading as ascii
use Rattle.binary_file.specs.Headers.{header_of}
use Rattle.binary_file.specs.Items.{next_section}
use Rattle.binary_file.specs.Reading.{read_binary, read_raw, feed, end_line, end_first, end_second, read_line, read_header, circuit_of}

-- the ASCII text of what is read
abbrev in_ascii : List ℕ → Result (List ℕ) ReadError
in_ascii bytes = read_binary bytes >>= λ c. Ok (text c)

abbrev AreRead : List (List ℕ × List ℕ) → Type 0
AreRead table = map (λ (e : List ℕ × List ℕ). in_ascii e.0) table ≡ map (λ (e : List ℕ × List ℕ). Ok e.1) table

abbrev AreRefused : List (List ℕ × ReadError) → Type 0
AreRefused table = map (λ (e : List ℕ × ReadError). read_binary e.0) table ≡ map (λ (e : List ℕ × ReadError). Err e.1) table

abbrev two_latches : List ℕ
two_latches = codes "aig 5 2 2 1 1\n2\n4\n10\n"

abbrev one_gate : List ℕ
one_gate = codes "aig 1 0 0 0 1\n"

-- a gate of two latches, with deltas of one byte and of two; all sections, symbols and a comment; a
-- last line without its newline
accepted : AreRead (
    (two_latches ++ 2 ∷ 2 ∷ [], codes "aag 5 2 2 1 1\n2\n4\n6 2\n8 4\n10\n10 8 6\n")
    ∷ (two_latches ++ 130 ∷ 0 ∷ 2 ∷ [], codes "aag 5 2 2 1 1\n2\n4\n6 2\n8 4\n10\n10 8 6\n")
    ∷ (one_gate ++ 2 ∷ 0 ∷ [], codes "aag 1 0 0 0 1\n2 0 0\n") ∷ (one_gate ++ 130 ∷ 128 ∷ 128 ∷ 128 ∷ 0 ∷ 0 ∷ [], codes "aag 1 0 0 0 1\n2 0 0\n")
    ∷ (
      codes "aig 5 2 2 1 1 1 1 2 1\n2 1\n4 8\n10\n10\n3\n2\n0\n11\n4\n2\n" ++ 2 ∷ 2 ∷ codes "f0 fair\ni0 x\nl0 a\nc0 inv\nj1 none\nc\ntext",
      codes "aag 5 2 2 1 1 1 1 2 1\n2\n4\n6 2 1\n8 4 8\n10\n10\n3\n2\n0\n11\n4\n2\n10 8 6\ni0 x\nl0 a\nc0 inv\nj1 none\nf0 fair\n",
    )
    ∷ (codes "aig 1 1 0 1 0\n3", codes "aag 1 1 0 1 0\n2\n3\n") ∷ (codes "aig 0 0 0 0 0", codes "aag 0 0 0 0 0\n") ∷ [])
unfolding read_binary read_raw feed end_line end_first end_second read_line read_header circuit_of next_section header_of item_of begins_comment pieces numbers_of props_of symbols_of ascii.next_section delta_value text latch_row gate_row symbol_line line spaced digits
accepted = refl

-- files with a fault each
refused : AreRefused (
    (one_gate ++ 128 ∷ [], Truncated 14) ∷ (one_gate ++ 0 ∷ [], BadDelta 14) ∷ (one_gate ++ 3 ∷ [], BadDelta 14) ∷ (one_gate ++ 130 ∷ 128 ∷ 128 ∷ 128 ∷ 128 ∷ 0 ∷ 0 ∷ [], BadDelta 14)
    ∷ (one_gate ++ 2 ∷ [], Truncated 15) ∷ (one_gate ++ 1 ∷ 2 ∷ [], BadDelta 15) ∷ (one_gate ++ 130 ∷ 128 ∷ 128 ∷ 128 ∷ [], Truncated 14) ∷ (one_gate ++ 2 ∷ 0 ∷ 10 ∷ [], Trailing 16)
    ∷ (one_gate ++ 2 ∷ 128 ∷ [], Truncated 15) ∷ (one_gate ++ 2 ∷ 128 ∷ 128 ∷ 128 ∷ 128 ∷ 128 ∷ [], BadDelta 15)
    ∷ (codes "aig 268435456 268435456 0 0 0\n", TooLarge 0) ∷ (codes "aig 268435455 0 268435455 0 0\n", Truncated 30)
    ∷ (codes "aig 5 2 2 1 1\n2\n4\n10", Truncated 20) ∷ (two_latches, Truncated 21) ∷ (two_latches ++ 2 ∷ [], Truncated 22) ∷ (two_latches ++ 130 ∷ [], Truncated 21)
    ∷ ([], BadHeader 0) ∷ (codes "aag 0 0 0 0 0\n", BadHeader 0) ∷ (codes "aig 2 1 0 0 0\n", MaxIndex 0) ∷ (codes "aig 1 0 1 0 0\n4\n", MaxIndex 14) ∷ (codes "aig 1 0 1 0 0\n2 3\n", BadReset 14)
    ∷ (codes "aig 1 0 1 0 0\n2 0 2\n", BadLine 14) ∷ (codes "aig 1 1 0 0 0\ni1 x\n", BadSymbol 14) ∷ (codes "aig 0 0 0 0 0\n\n", Trailing 14) ∷ [])
unfolding read_binary read_raw feed end_line end_first end_second read_line read_header next_section header_of item_of begins_comment pieces numbers_of ascii.next_section delta_value
refused = refl

-- a header alone is a whole file, however many inputs it has
many_inputs : read_raw (codes "aig 268435455 268435455 0 0 0\n") ≡ Ok (record { greatest = 268435455; inputs = 268435455; latches = 0; outputs = 0; gates = 0; bad = 0; constraints = 0; justice = 0; fairness = 0 }, nothing_yet)
unfolding read_raw feed end_line read_line read_header next_section header_of pieces numbers_of ascii.next_section
many_inputs = refl

zero_delta : delta_of 0 ≡ 0 ∷ []
unfolding bytes_within
zero_delta = refl

small : delta_of 2 ≡ 2 ∷ []
unfolding bytes_within
small = refl

greatest_of_one_byte : delta_of 127 ≡ 127 ∷ []
unfolding bytes_within
greatest_of_one_byte = refl

two_bytes : delta_of 128 ≡ 128 ∷ 1 ∷ []
unfolding bytes_within
two_bytes = refl

three_hundred : delta_of 300 ≡ 172 ∷ 2 ∷ []
unfolding bytes_within
three_hundred = refl

three_bytes : delta_of 16384 ≡ 128 ∷ 128 ∷ 1 ∷ []
unfolding bytes_within
three_bytes = refl

greatest_variable : delta_of 268435455 ≡ 255 ∷ 255 ∷ 255 ∷ 127 ∷ []
unfolding bytes_within
greatest_variable = refl

five_bytes : delta_of 536870910 ≡ 254 ∷ 255 ∷ 255 ∷ 255 ∷ 1 ∷ []
unfolding bytes_within
five_bytes = refl

-- more bytes than are wanted
spelled_at_length : delta_value (130 ∷ 0 ∷ []) ≡ 2
unfolding delta_value
spelled_at_length = refl
