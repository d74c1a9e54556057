-- The contents with one item more, by the numbers of a line as 32 bits hold them.
use Rattle.std.specs.Prelude.{ℕ, ◌+◌, ◌*◌, ◌^◌, ◌==◌, nat_lt, nat_le, List, [], ◌∷◌, ◌++◌, Option, Some, None, Result, Ok, Err, if◌then◌else◌}
use Rattle.std.specs.List.{sum, list_any}
use Rattle.aig_graph.specs.declared.graph.Latch.{Latch}
use Rattle.aig_graph.specs.declared.graph.Gate.{Gate}
use Rattle.aig_graph.specs.declared.graph.Reset.{Reset}
use Rattle.aig_graph.specs.declared.graph.Reset.TheVariants.{Zero, One, Free}
use Rattle.file_words.specs.declared.fault.ReadError.{ReadError}
use Rattle.file_words.specs.declared.fault.ReadError.TheVariants.{TooLarge, MaxIndex, BadLine, BadReset, BadSymbol}
use Rattle.file_words.specs.Answering.{◌>>=◌}
use Rattle.ascii_file.specs.declared.header.Header.{Header}
use Rattle.ascii_file.specs.Raw.{RawSymbol, count_of}
use Rattle.ascii_file.specs.Meaning.{symbols_of}
use Rattle.ascii_file.specs.Reading.{is_of_same}
use Rattle.binary_file.specs.Contents.{Contents, latch_literal}

abbrev pub with_latch : Contents → Latch → Contents
with_latch c latch = record c { latches = c.latches ++ latch ∷ [] }

abbrev pub with_safety : Contents → ℕ → Contents
with_safety c lit = record c { properties = record c.properties { safety = c.properties.safety ++ lit ∷ [] } }

abbrev pub with_size : Contents → ℕ → Contents
with_size c size = record c { properties = record c.properties { sizes = c.properties.sizes ++ size ∷ [] } }

abbrev pub with_liveness : Contents → ℕ → Contents
with_liveness c lit = record c { properties = record c.properties { liveness = c.properties.liveness ++ lit ∷ [] } }

abbrev pub contents_with_gate : Contents → Gate → Contents
contents_with_gate c gate = record c { gates = c.gates ++ gate ∷ [] }

abbrev pub with_symbol_names : Contents → List RawSymbol → Contents
with_symbol_names c symbols = record c { names = symbols_of symbols }

-- the only number of a line
abbrev pub only_number : ℕ → List ℕ → Result ℕ ReadError
only_number at (number ∷ []) = Ok number
only_number at _ = Err (BadLine at)

-- the literal, if it is within the range of the header
abbrev pub literal_within : Header → ℕ → ℕ → Result ℕ ReadError
literal_within h at lit = if nat_lt (2 * h.greatest + 1) lit then Err (MaxIndex at) else Ok lit

abbrev pub safety_taken : Contents → ℕ → List ℕ → Result Contents ReadError
safety_taken c at ns = only_number at ns >>= λ n. literal_within c.header at n >>= λ lit. Ok (with_safety c lit)

abbrev pub size_taken : Contents → ℕ → List ℕ → Result Contents ReadError
size_taken c at ns = only_number at ns >>= λ size. if nat_lt (2 ^ 24) (sum c.properties.sizes + size) then Err (TooLarge at) else Ok (with_size c size)

abbrev pub liveness_taken : Contents → ℕ → List ℕ → Result Contents ReadError
liveness_taken c at ns = only_number at ns >>= λ n. literal_within c.header at n >>= λ lit. Ok (with_liveness c lit)

-- the reset that a number stands for, of a latch with this literal
abbrev pub reset_in : ℕ → ℕ → Option Reset
reset_in current n = if n == 0 then Some Zero else (if n == 1 then Some One else (if n == current then Some Free else None))

abbrev pub latch_with : Contents → ℕ → ℕ → Option Reset → Result Contents ReadError
latch_with c at lit None = Err (BadReset at)
latch_with c at lit (Some reset) = Ok (with_latch c (record { next = lit; reset = reset }))

-- the next literal and the reset of a latch's line
abbrev pub latch_numbers : ℕ → List ℕ → Result (ℕ × ℕ) ReadError
latch_numbers at (next ∷ []) = Ok (next, 0)
latch_numbers at (next ∷ reset ∷ []) = Ok (next, reset)
latch_numbers at _ = Err (BadLine at)

-- the contents with a latch of these numbers, from the line at this offset, or the fault of the
-- line
abbrev pub latch_taken : Contents → ℕ → List ℕ → Result Contents ReadError
latch_taken c at ns = latch_numbers at ns >>= λ numbers. literal_within c.header at numbers.0 >>= λ lit. latch_with c at lit (reset_in (latch_literal c) numbers.1)

-- the contents with a symbol after these
abbrev pub symbol_taken : Contents → List RawSymbol → ℕ → RawSymbol → Result Contents ReadError
symbol_taken c symbols at symbol =
    if nat_le (count_of c.header symbol.kind) symbol.position then Err (BadSymbol at)
    else (if list_any (is_of_same symbol) symbols then Err (BadSymbol at) else Ok (with_symbol_names c (symbols ++ symbol ∷ [])))
