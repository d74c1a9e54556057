-- The first fault of a file, item by item, and what is read if there is none.
use Rattle.std.specs.Prelude.{ℕ, ◌≡◌, ◌+◌, ◌-◌, ◌*◌, ◌^◌, ◌%◌, ◌==◌, ◌||◌, ◌&&◌, Bool, true, false, not, nat_le, nat_lt, List, [], ◌∷◌, ◌++◌, length, Option, Some, None, Result, Ok, Err, if◌then◌else◌}
use Rattle.std.specs.List.{sum, list_any, list_all}
use Rattle.aig_graph.specs.Marking.{has}
use Rattle.aig_graph.specs.Graph.{variable}
use Rattle.aig_graph.specs.Circuits.{Netlist}
use Rattle.file_words.specs.declared.fault.ReadError.{ReadError}
use Rattle.file_words.specs.declared.fault.ReadError.TheVariants.{BadHeader, TooLarge, MaxIndex, BadLine, BadLiteral, DefinedTwice, Undefined, Cycle, BadReset, Truncated, BadSymbol, Trailing}
use Rattle.file_words.specs.Answering.{◌>>=◌}
use Rattle.file_words.specs.Codes.{is_fault_of_bytes}
use Rattle.file_words.specs.Lines.{lines}
use Rattle.ascii_file.specs.declared.header.Header.{Header}
use Rattle.ascii_file.specs.declared.raw.RawLatch.{RawLatch}
use Rattle.ascii_file.specs.declared.raw.Section.{Section}
use Rattle.ascii_file.specs.declared.raw.SymbolKind.{SymbolKind}
use Rattle.ascii_file.specs.declared.raw.Section.TheVariants.{Inputs, Latches, Safety, Sizes, Liveness, Gates, Symbols}
use Rattle.ascii_file.specs.Raw.{Raw, RawSymbol, nothing_yet, defined, read_literals, safety_count, liveness_count, count_of, kind_number}
use Rattle.ascii_file.specs.Headers.{header_of}
use Rattle.ascii_file.specs.Items.{Item, InputItem, LatchItem, SafetyItem, SizeItem, LivenessItem, GateItem, SymbolItem, item_of, kind_of, begins_comment}
use Rattle.ascii_file.specs.Meaning.{in_order, circuit_of}

-- the value, unless a check fails: the fault is that of the first one that does
abbrev pub unless : {A : Type 0} → List (Bool × ReadError) → Result A ReadError → Result A ReadError
unless [] value = value
unless ((fails, fault) ∷ checks) value = if fails then Err fault else unless checks value

-- ---- the header

-- What is asked of a header in this order, each with its fault. The greatest variable is at most
-- 2^28 - 1. There are at most 2^24 of each kind of property, and variables for all inputs, latches
-- and gates.
abbrev pub header_checks : Header → List (Bool × ReadError)
header_checks h =
    (nat_lt (2 ^ 28 - 1) h.greatest, TooLarge 0)
    ∷ (nat_lt (2 ^ 24) h.outputs, TooLarge 0) ∷ (nat_lt (2 ^ 24) h.bad, TooLarge 0) ∷ (nat_lt (2 ^ 24) h.constraints, TooLarge 0)
    ∷ (nat_lt (2 ^ 24) h.justice, TooLarge 0) ∷ (nat_lt (2 ^ 24) h.fairness, TooLarge 0)
    ∷ (nat_lt h.greatest (h.inputs + h.latches + h.gates), MaxIndex 0) ∷ []

abbrev pub checked_header : Option Header → Result Header ReadError
checked_header None = Err (BadHeader 0)
checked_header (Some h) = unless (header_checks h) (Ok h)

-- the header that the first line spells
unfoldable pub read_header : List ℕ → Result Header ReadError
read_header line = checked_header (header_of line)

-- ---- the checks of an item

-- whether a literal of the line is past the greatest variable
abbrev pub past_greatest : Header → List ℕ → Bool
past_greatest h lits = list_any (λ lit. nat_lt (2 * h.greatest + 1) lit) lits

-- whether a literal can't be defined: odd, or 0
abbrev pub is_undefinable : ℕ → Bool
is_undefinable lit = not (lit % 2 == 0) || (lit == 0)

-- of a line with these literals, of which it defines the first
abbrev pub definition_checks : Header → Raw → ℕ → ℕ → List ℕ → List (Bool × ReadError)
definition_checks h raw at lit others =
    (past_greatest h (lit ∷ others), MaxIndex at) ∷ (is_undefinable lit, BadLiteral at) ∷ (has (defined raw) (variable lit), DefinedTwice at) ∷ []

-- whether a latch's reset is neither 0 nor 1 nor its own literal
abbrev pub is_bad_reset : RawLatch → Bool
is_bad_reset latch = not ((latch.reset == 0) || (latch.reset == 1) || (latch.reset == latch.current))

-- whether two symbols are of one thing
abbrev pub is_of_same : RawSymbol → RawSymbol → Bool
is_of_same symbol other = (kind_number symbol.kind == kind_number other.kind) && (symbol.position == other.position)

-- the checks of an item with their faults, in the order in which they are made
abbrev pub checks : Header → Raw → ℕ → Item → List (Bool × ReadError)
checks h raw at (InputItem lit) = definition_checks h raw at lit []
checks h raw at (LatchItem latch) = definition_checks h raw at latch.current (latch.next ∷ []) ++ (is_bad_reset latch, BadReset at) ∷ []
checks h raw at (SafetyItem lit) = (past_greatest h (lit ∷ []), MaxIndex at) ∷ []
checks h raw at (SizeItem size) = (nat_lt (2 ^ 24) (sum raw.sizes + size), TooLarge at) ∷ []
checks h raw at (LivenessItem lit) = (past_greatest h (lit ∷ []), MaxIndex at) ∷ []
checks h raw at (GateItem gate) = definition_checks h raw at gate.lhs (gate.rhs0 ∷ gate.rhs1 ∷ [])
checks h raw at (SymbolItem symbol) = (nat_le (count_of h symbol.kind) symbol.position, BadSymbol at) ∷ (list_any (is_of_same symbol) raw.symbols, BadSymbol at) ∷ []

-- ---- the lines after the header

-- the first section that isn't full
unfoldable pub next_section : Header → Raw → Section
next_section h raw =
    if nat_lt (length raw.inputs) h.inputs then Inputs else (if nat_lt (length raw.latches) h.latches then Latches else (if nat_lt (length raw.safety) (safety_count h) then Safety
    else (if nat_lt (length raw.sizes) h.justice then Sizes else (if nat_lt (length raw.liveness) (liveness_count h raw) then Liveness else (if nat_lt (length raw.gates) h.gates then Gates else Symbols)))))

-- what was read, with one more item at the end of its section
abbrev pub with_item : Raw → Item → Raw
with_item raw (InputItem lit) = record raw { inputs = raw.inputs ++ lit ∷ [] }
with_item raw (LatchItem latch) = record raw { latches = raw.latches ++ latch ∷ [] }
with_item raw (SafetyItem lit) = record raw { safety = raw.safety ++ lit ∷ [] }
with_item raw (SizeItem size) = record raw { sizes = raw.sizes ++ size ∷ [] }
with_item raw (LivenessItem lit) = record raw { liveness = raw.liveness ++ lit ∷ [] }
with_item raw (GateItem gate) = record raw { gates = raw.gates ++ gate ∷ [] }
with_item raw (SymbolItem symbol) = record raw { symbols = raw.symbols ++ symbol ∷ [] }

-- the fault of a line that isn't of its section's form: after the gates, Trailing if it doesn't
-- begin as a symbol
abbrev pub malformed_symbol : ℕ → Option SymbolKind → ReadError
malformed_symbol at None = Trailing at
malformed_symbol at (Some kind) = BadSymbol at

abbrev pub malformed : Section → ℕ → List ℕ → ReadError
malformed Symbols at [] = Trailing at
malformed Symbols at (letter ∷ bytes) = malformed_symbol at (kind_of letter)
malformed section at line = BadLine at

-- one more item, if the line spells one and no check fails
abbrev pub take_item : Header → Raw → ℕ → ReadError → Option Item → Result Raw ReadError
take_item h raw at fault None = Err fault
take_item h raw at fault (Some item) = unless (checks h raw at item) (Ok (with_item raw item))

-- what reading a line after these items gives
unfoldable pub read_line : Header → Raw → ℕ → List ℕ → Result Raw ReadError
read_line h raw at line = take_item h raw at (malformed (next_section h raw) at line) (item_of (next_section h raw) line)

-- ---- the file

-- the state of a reader: before the header, at an offset after it, or in the comment
pub data State : Type 0 where
  AtHeader : State
  InItems : (h : Header) (raw : Raw) (at : ℕ) → State
  InComment : (h : Header) (raw : Raw) → State

-- whether a section is that of symbols
abbrev pub is_symbols : Section → Bool
is_symbols Symbols = true
is_symbols section = false

-- whether all items but symbols have been read
abbrev pub is_complete : Header → Raw → Bool
is_complete h raw = is_symbols (next_section h raw)

-- the next line
abbrev pub take_line : State → List ℕ → Result State ReadError
take_line AtHeader line = read_header line >>= λ h. Ok (InItems h nothing_yet (length line + 1))
take_line (InItems h raw at) line =
    if is_complete h raw && begins_comment line then Ok (InComment h raw) else (read_line h raw at line >>= λ more. Ok (InItems h more (at + length line + 1)))
take_line (InComment h raw) line = Ok (InComment h raw)

-- lines, one after the other
unfoldable pub take_lines : State → List (List ℕ) → Result State ReadError
take_lines state [] = Ok state
take_lines state (line ∷ rest) = take_line state line >>= λ next. take_lines next rest

-- whether a literal's variable is the constant or one of these
abbrev pub is_known_among : List ℕ → ℕ → Bool
is_known_among variables lit = (variable lit == 0) || has variables (variable lit)

-- whether all that is read is defined
unfoldable pub is_resolved : Raw → Bool
is_resolved raw = list_all (is_known_among (defined raw)) (read_literals raw)

-- the circuit, if its gates have an order
abbrev pub circuit_in_order : Header → Option Raw → Result Netlist ReadError
circuit_in_order h None = Err Cycle
circuit_in_order h (Some raw) = Ok (circuit_of h raw)

abbrev pub resolve : Header → Raw → Result Netlist ReadError
resolve h raw = if is_resolved raw then circuit_in_order h (in_order raw) else Err Undefined

-- the end of a file of this length
abbrev pub finish : ℕ → State → Result Netlist ReadError
finish end AtHeader = Err (BadHeader 0)
finish end (InItems h raw at) = if is_complete h raw then resolve h raw else Err (Truncated end)
finish end (InComment h raw) = resolve h raw

-- the circuit of the bytes, or their first fault
unfoldable pub read_bytes : List ℕ → Result Netlist ReadError
read_bytes bytes = take_lines AtHeader (lines bytes) >>= finish (length bytes)

-- the first fault of the bytes: neither memory nor a reader has it
pub record IsFaultOf (bytes : List ℕ) (e : ReadError) : Type 0 where
  pub read : read_bytes bytes ≡ Err e
  pub of_bytes : is_fault_of_bytes e ≡ true
