-- A fault that reading gives is one of the bytes.
use Rattle.std.proofs.Common.{ℕ, ◌+◌, ◌-◌, ◌≡◌, List, [], ◌∷◌, ◌++◌, Option, Some, None, Result, Ok, Err, true, ◌&&◌, ◌||◌, nat_eq, nat_lt, length, refl, subst}
use Rattle.aig_graph.specs.Circuits.{Netlist}
use Rattle.file_words.specs.declared.fault.ReadError.{ReadError}
use Rattle.file_words.specs.declared.fault.ReadError.TheVariants.{BadDelta, Truncated}
use Rattle.file_words.specs.Codes.{is_fault_of_bytes}
use Rattle.file_words.specs.Answering.{◌>>=◌}
use Rattle.binary_file.specs.Deltas.{delta_value}
use Rattle.ascii_file.specs.declared.header.Header.{Header}
use Rattle.ascii_file.specs.Raw.{Raw, nothing_yet}
use Rattle.ascii_file.specs.Items.{Item, InputItem, LatchItem, SafetyItem, SizeItem, LivenessItem, GateItem, SymbolItem, begins_comment}
use Rattle.ascii_file.specs.Reading.{with_item, malformed, is_symbols}
use Rattle.ascii_file.proofs.FaultLaws.{IsFaultOrOk, AreOfBytes, choice, in_turn, checked, item_checks, form}
use Rattle.binary_file.specs.Headers.{header_of, binary_header_checks}
use Rattle.binary_file.specs.Items.{next_section, next_gate, item_in}
use Rattle.binary_file.specs.Reading.{State, AtHeader, InLine, InFirst, InSecond, InComment, before_item, checked_header, read_header, end_header, line_checks, take_item, read_line, end_line, end_first, end_second, delta_step, step, feed, complete, finish, read_raw, circuit_of, read_binary}

line_item_checks : (h : Header) (raw : Raw) (at : ℕ) (item : Item) → AreOfBytes (line_checks h raw at item)
line_item_checks h raw at (InputItem lit) = item_checks h raw at (InputItem lit)
line_item_checks h raw at (LatchItem latch) = (refl, (refl, tt))
line_item_checks h raw at (SafetyItem lit) = item_checks h raw at (SafetyItem lit)
line_item_checks h raw at (SizeItem size) = item_checks h raw at (SizeItem size)
line_item_checks h raw at (LivenessItem lit) = item_checks h raw at (LivenessItem lit)
line_item_checks h raw at (GateItem gate) = item_checks h raw at (GateItem gate)
line_item_checks h raw at (SymbolItem symbol) = item_checks h raw at (SymbolItem symbol)

item_taken : (h : Header) (raw : Raw) (at : ℕ) (fault : ReadError) (found : Option Item) → is_fault_of_bytes fault ≡ true → IsFaultOrOk (take_item h raw at fault found)
item_taken h raw at fault None of = of
item_taken h raw at fault (Some item) of = checked (line_checks h raw at item) (Ok (with_item raw item)) (line_item_checks h raw at item) tt

line_read : (h : Header) (raw : Raw) (at : ℕ) (line : List ℕ) → IsFaultOrOk (read_line h raw at line)
unfolding read_line
line_read h raw at line = item_taken h raw at (malformed (next_section h raw) at line) (item_in h raw (next_section h raw) line) (form (next_section h raw) at line)

line_ended : (h : Header) (raw : Raw) (at : ℕ) (line : List ℕ) → IsFaultOrOk (end_line h raw at line)
unfolding end_line
line_ended h raw at line =
    choice (is_symbols (next_section h raw) && begins_comment line) (Ok (InComment h raw)) (read_line h raw at line >>= λ more. Ok (before_item h more (at + length line + 1))) tt
    (in_turn (read_line h raw at line) (λ more. Ok (before_item h more (at + length line + 1))) (line_read h raw at line) (λ more. tt))

header_found : (found : Option Header) → IsFaultOrOk (checked_header found)
header_found None = refl
header_found (Some h) = checked (binary_header_checks h) (Ok h) (refl, (refl, (refl, (refl, (refl, (refl, (refl, tt))))))) tt

header_read : (line : List ℕ) → IsFaultOrOk (read_header line)
unfolding read_header
header_read line = header_found (header_of line)

header_ended : (line : List ℕ) → IsFaultOrOk (end_header line)
header_ended line = in_turn (read_header line) (λ h. Ok (before_item h nothing_yet (length line + 1))) (header_read line) (λ h. tt)

first_ended : (h : Header) (raw : Raw) (at : ℕ) (delta : List ℕ) → IsFaultOrOk (end_first h raw at delta)
unfolding end_first
first_ended h raw at delta = checked (((nat_eq (delta_value delta) 0) || nat_lt (next_gate h raw) (delta_value delta), BadDelta at) ∷ []) (Ok (InSecond h raw (at + length delta) (next_gate h raw - delta_value delta) [])) (refl, tt) tt

second_ended : (h : Header) (raw : Raw) (at rhs0 : ℕ) (delta : List ℕ) → IsFaultOrOk (end_second h raw at rhs0 delta)
unfolding end_second
second_ended h raw at rhs0 delta =
    checked ((nat_lt rhs0 (delta_value delta), BadDelta at) ∷ [])
    (Ok (before_item h (with_item raw (GateItem (record { lhs = next_gate h raw; rhs0 = rhs0; rhs1 = rhs0 - delta_value delta }))) (at + length delta))) (refl, tt) tt

delta_taken : (at : ℕ) (delta : List ℕ) (b : ℕ) (more : State) (end : List ℕ → Result State ReadError) → ((d : List ℕ) → IsFaultOrOk (end d)) → IsFaultOrOk (delta_step at delta b more end)
delta_taken at delta b more end ended =
    choice (nat_lt b 128) (end (delta ++ b ∷ [])) _ (ended (delta ++ b ∷ [])) (choice (nat_eq (length delta) 4) (Err (BadDelta at)) (Ok more) refl tt)

stepped : (state : State) (b : ℕ) → IsFaultOrOk (step state b)
stepped (AtHeader line) b = choice (nat_eq b 10) (end_header line) (Ok (AtHeader (line ++ b ∷ []))) (header_ended line) tt
stepped (InLine h raw at line) b = choice (nat_eq b 10) (end_line h raw at line) (Ok (InLine h raw at (line ++ b ∷ []))) (line_ended h raw at line) tt
stepped (InFirst h raw at delta) b = delta_taken at delta b (InFirst h raw at (delta ++ b ∷ [])) (end_first h raw at) (first_ended h raw at)
stepped (InSecond h raw at rhs0 delta) b = delta_taken at delta b (InSecond h raw at rhs0 (delta ++ b ∷ [])) (end_second h raw at rhs0) (second_ended h raw at rhs0)
stepped (InComment h raw) b = tt

fed : (bytes : List ℕ) (state : State) → IsFaultOrOk (feed state bytes)
unfolding feed
fed [] state = tt
fed (b ∷ bytes) state = in_turn (step state b) (λ next. feed next bytes) (stepped state b) (λ next. fed bytes next)

completed : (end : ℕ) (state : State) → IsFaultOrOk (complete end state)
completed end (AtHeader line) = refl
completed end (InLine h raw at line) = choice (is_symbols (next_section h raw)) (Ok (h, raw)) (Err (Truncated end)) tt refl
completed end (InFirst h raw at delta) = refl
completed end (InSecond h raw at rhs0 delta) = refl
completed end (InComment h raw) = tt

finished : (end : ℕ) (state : State) → IsFaultOrOk (finish end state)
finished end (AtHeader []) = refl
finished end (AtHeader (b ∷ line)) = in_turn (end_header (b ∷ line)) (complete end) (header_ended (b ∷ line)) (completed end)
finished end (InLine h raw at []) = completed end (InLine h raw at [])
finished end (InLine h raw at (b ∷ line)) = in_turn (end_line h raw at (b ∷ line)) (complete end) (line_ended h raw at (b ∷ line)) (completed end)
finished end (InFirst h raw at []) = refl
finished end (InFirst h raw at (b ∷ delta)) = refl
finished end (InSecond h raw at rhs0 []) = refl
finished end (InSecond h raw at rhs0 (b ∷ delta)) = refl
finished end (InComment h raw) = tt

given : (bytes : List ℕ) → IsFaultOrOk (read_binary bytes)
unfolding read_binary read_raw
given bytes =
    in_turn (feed (AtHeader []) bytes >>= finish (length bytes)) (λ all. Ok (circuit_of all.0 all.1))
    (in_turn (feed (AtHeader []) bytes) (finish (length bytes)) (fed bytes (AtHeader [])) (finished (length bytes))) (λ all. tt)

-- a fault that reading gives is one of the bytes, not of memory or of a reader
pub fault_of_bytes : (bytes : List ℕ) (e : ReadError) → read_binary bytes ≡ Err e → is_fault_of_bytes e ≡ true
fault_of_bytes bytes e was = subst (λ (answer : Result Netlist ReadError). IsFaultOrOk answer) was (given bytes)
