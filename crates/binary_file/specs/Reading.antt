-- The first fault of a binary file, byte by byte, and what is read if there is none.
use Rattle.std.specs.Prelude.{ℕ, ◌≡◌, ◌+◌, ◌-◌, ◌==◌, ◌||◌, ◌&&◌, Bool, true, false, nat_lt, List, [], ◌∷◌, ◌++◌, length, map, Option, Some, None, Result, Ok, Err, if◌then◌else◌}
use Rattle.aig_graph.specs.Circuits.{Netlist}
use Rattle.file_words.specs.declared.fault.ReadError.{ReadError}
use Rattle.file_words.specs.declared.fault.ReadError.TheVariants.{BadHeader, MaxIndex, BadReset, BadDelta, Truncated}
use Rattle.file_words.specs.Codes.{is_fault_of_bytes}
use Rattle.file_words.specs.Answering.{◌>>=◌}
use Rattle.binary_file.specs.Deltas.{delta_value}
use Rattle.ascii_file.specs.declared.header.Header.{Header}
use Rattle.ascii_file.specs.declared.raw.Section.{Section}
use Rattle.ascii_file.specs.declared.raw.Section.TheVariants.{Gates}
use Rattle.ascii_file.specs.Raw.{Raw, nothing_yet}
use Rattle.ascii_file.specs.Items.{Item, LatchItem, GateItem, begins_comment}
use Rattle.ascii_file.specs.Meaning.{reset_of, props_of, symbols_of}
use Rattle.ascii_file.specs.Reading.{unless, past_greatest, is_bad_reset, checks, with_item, malformed, is_symbols}
use Rattle.binary_file.specs.Headers.{header_of, binary_header_checks}
use Rattle.binary_file.specs.Items.{next_section, next_gate, item_in}

-- The state of a reader. After the header it is the raw circuit so far, the offset of the item that
-- has begun, and its bytes.
pub data State : Type 0 where
  AtHeader : (line : List ℕ) → State
  InLine : (h : Header) (raw : Raw) (at : ℕ) (line : List ℕ) → State
  InFirst : (h : Header) (raw : Raw) (at : ℕ) (delta : List ℕ) → State
  InSecond : (h : Header) (raw : Raw) (at rhs0 : ℕ) (delta : List ℕ) → State
  InComment : (h : Header) (raw : Raw) → State

abbrev pub is_gates : Section → Bool
is_gates Gates = true
is_gates section = false

-- before an item: a gate, or else a line
abbrev pub before_item : Header → Raw → ℕ → State
before_item h raw at = if is_gates (next_section h raw) then InFirst h raw at [] else InLine h raw at []

-- ---- the header

abbrev pub checked_header : Option Header → Result Header ReadError
checked_header None = Err (BadHeader 0)
checked_header (Some h) = unless (binary_header_checks h) (Ok h)

unfoldable pub read_header : List ℕ → Result Header ReadError
read_header line = checked_header (header_of line)

abbrev pub end_header : List ℕ → Result State ReadError
end_header line = read_header line >>= λ h. Ok (before_item h nothing_yet (length line + 1))

-- ---- lines

-- the checks of a line's item: as in an ASCII file, but a latch's line defines nothing
abbrev pub line_checks : Header → Raw → ℕ → Item → List (Bool × ReadError)
line_checks h raw at (LatchItem latch) = (past_greatest h (latch.next ∷ []), MaxIndex at) ∷ (is_bad_reset latch, BadReset at) ∷ []
line_checks h raw at item = checks h raw at item

abbrev pub take_item : Header → Raw → ℕ → ReadError → Option Item → Result Raw ReadError
take_item h raw at fault None = Err fault
take_item h raw at fault (Some item) = unless (line_checks h raw at item) (Ok (with_item raw item))

-- what reading a line after these items gives
unfoldable pub read_line : Header → Raw → ℕ → List ℕ → Result Raw ReadError
read_line h raw at line = take_item h raw at (malformed (next_section h raw) at line) (item_in h raw (next_section h raw) line)

-- the state after a line: a comment begins, or the line is an item, or its fault
unfoldable pub end_line : Header → Raw → ℕ → List ℕ → Result State ReadError
end_line h raw at line =
    if is_symbols (next_section h raw) && begins_comment line then Ok (InComment h raw) else (read_line h raw at line >>= λ more. Ok (before_item h more (at + length line + 1)))

-- ---- gates

-- a gate's first delta, which is neither 0 nor above the gate's literal
unfoldable pub end_first : Header → Raw → ℕ → List ℕ → Result State ReadError
end_first h raw at delta =
    unless (((delta_value delta == 0) || nat_lt (next_gate h raw) (delta_value delta), BadDelta at) ∷ []) (Ok (InSecond h raw (at + length delta) (next_gate h raw - delta_value delta) []))

-- its second delta, which is not above its first fan-in
unfoldable pub end_second : Header → Raw → ℕ → ℕ → List ℕ → Result State ReadError
end_second h raw at rhs0 delta =
    unless ((nat_lt rhs0 (delta_value delta), BadDelta at) ∷ [])
    (Ok (before_item h (with_item raw (GateItem (record { lhs = next_gate h raw; rhs0 = rhs0; rhs1 = rhs0 - delta_value delta }))) (at + length delta)))

-- one byte more of the delta at an offset: its last one, or one with the top bit set, which the
-- fifth may not be
abbrev pub delta_step : ℕ → List ℕ → ℕ → State → (List ℕ → Result State ReadError) → Result State ReadError
delta_step at delta b more end =
    if nat_lt b 128 then end (delta ++ b ∷ []) else (if length delta == 4 then Err (BadDelta at) else Ok more)

-- ---- bytes

-- the next byte
abbrev pub step : State → ℕ → Result State ReadError
step (AtHeader line) b = if b == 10 then end_header line else Ok (AtHeader (line ++ b ∷ []))
step (InLine h raw at line) b = if b == 10 then end_line h raw at line else Ok (InLine h raw at (line ++ b ∷ []))
step (InFirst h raw at delta) b = delta_step at delta b (InFirst h raw at (delta ++ b ∷ [])) (end_first h raw at)
step (InSecond h raw at rhs0 delta) b = delta_step at delta b (InSecond h raw at rhs0 (delta ++ b ∷ [])) (end_second h raw at rhs0)
step (InComment h raw) b = Ok (InComment h raw)

-- bytes, one after the other
unfoldable pub feed : State → List ℕ → Result State ReadError
feed state [] = Ok state
feed state (b ∷ bytes) = step state b >>= λ next. feed next bytes

-- ---- the end

-- all that was read of an input of this length, if no item is missing
abbrev pub complete : ℕ → State → Result (Header × Raw) ReadError
complete end (InLine h raw at line) = if is_symbols (next_section h raw) then Ok (h, raw) else Err (Truncated end)
complete end (InComment h raw) = Ok (h, raw)
complete end state = Err (Truncated end)

-- the end of the input ends a line, but no delta
abbrev pub finish : ℕ → State → Result (Header × Raw) ReadError
finish end (AtHeader []) = Err (BadHeader 0)
finish end (AtHeader (b ∷ line)) = end_header (b ∷ line) >>= complete end
finish end (InLine h raw at []) = complete end (InLine h raw at [])
finish end (InLine h raw at (b ∷ line)) = end_line h raw at (b ∷ line) >>= complete end
finish end (InFirst h raw at []) = Err (Truncated end)
finish end (InFirst h raw at (b ∷ delta)) = Err (Truncated at)
finish end (InSecond h raw at rhs0 []) = Err (Truncated end)
finish end (InSecond h raw at rhs0 (b ∷ delta)) = Err (Truncated at)
finish end (InComment h raw) = Ok (h, raw)

-- the header and the raw circuit of the bytes, or their first fault
unfoldable pub read_raw : List ℕ → Result (Header × Raw) ReadError
read_raw bytes = feed (AtHeader []) bytes >>= finish (length bytes)

-- the circuit of a raw circuit, as listed
unfoldable pub circuit_of : Header → Raw → Netlist
circuit_of h raw = record {
  aig = record {
    inputs = h.inputs;
    latches = map (λ latch. record { next = latch.next; reset = reset_of latch.reset }) raw.latches;
    gates = map (λ gate. record { rhs0 = gate.rhs0; rhs1 = gate.rhs1 }) raw.gates;
  };
  props = props_of h raw.safety raw.sizes raw.liveness;
  symbols = symbols_of raw.symbols;
}

-- the circuit of the bytes, or their first fault
unfoldable pub read_binary : List ℕ → Result Netlist ReadError
read_binary bytes = read_raw bytes >>= λ all. Ok (circuit_of all.0 all.1)

-- the first fault of the bytes: neither memory nor a reader has it
pub record IsBinaryFaultOf (bytes : List ℕ) (e : ReadError) : Type 0 where
  pub read : read_binary bytes ≡ Err e
  pub of_bytes : is_fault_of_bytes e ≡ true
