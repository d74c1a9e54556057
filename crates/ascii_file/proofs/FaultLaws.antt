-- A fault that reading gives is one of the bytes.
use Rattle.std.proofs.Common.{ℕ, ◌+◌, ◌≡◌, List, [], ◌∷◌, Option, Some, None, Result, Ok, Err, Bool, true, false, cond, ◌&&◌, length, refl, subst}
use Rattle.aig_graph.specs.Circuits.{Netlist}
use Rattle.file_words.specs.declared.fault.ReadError.{ReadError}
use Rattle.file_words.specs.declared.fault.ReadError.TheVariants.{Undefined, Truncated}
use Rattle.file_words.specs.Codes.{is_fault_of_bytes}
use Rattle.file_words.specs.Lines.{lines}
use Rattle.file_words.specs.Answering.{◌>>=◌}
use Rattle.ascii_file.specs.declared.header.Header.{Header}
use Rattle.ascii_file.specs.declared.raw.Section.{Section}
use Rattle.ascii_file.specs.declared.raw.Section.TheVariants.{Inputs, Latches, Safety, Sizes, Liveness, Gates, Symbols}
use Rattle.ascii_file.specs.declared.raw.SymbolKind.{SymbolKind}
use Rattle.ascii_file.specs.Raw.{Raw, nothing_yet}
use Rattle.ascii_file.specs.Headers.{header_of}
use Rattle.ascii_file.specs.Items.{Item, InputItem, LatchItem, SafetyItem, SizeItem, LivenessItem, GateItem, SymbolItem, item_of, kind_of, begins_comment}
use Rattle.ascii_file.specs.Meaning.{in_order}
use Rattle.ascii_file.specs.Reading.{unless, header_checks, checked_header, read_header, checks, next_section, with_item, malformed_symbol, malformed, take_item, read_line, State, AtHeader, InItems, InComment, is_complete, take_line, take_lines, is_resolved, circuit_in_order, resolve, finish, read_bytes}

-- a value, or a fault of the bytes
abbrev pub IsFaultOrOk : {A : Type 0} → Result A ReadError → Type 0
IsFaultOrOk (Ok x) = Unit {0}
IsFaultOrOk (Err e) = is_fault_of_bytes e ≡ true

-- if both of two are a value or a fault of the bytes, so is the one that is chosen
pub choice : {A : Type 0} (b : Bool) (x y : Result A ReadError) → IsFaultOrOk x → IsFaultOrOk y → IsFaultOrOk (cond b x y)
choice true x y one other = one
choice false x y one other = other

-- if a step and what comes next are values or faults of the bytes, so are both together
pub in_turn : {A B : Type 0} (x : Result A ReadError) (f : A → Result B ReadError) → IsFaultOrOk x → ((a : A) → IsFaultOrOk (f a)) → IsFaultOrOk (x >>= f)
in_turn (Ok a) f first then = then a
in_turn (Err e) f first then = first

-- checks whose faults are of the bytes
abbrev pub AreOfBytes : List (Bool × ReadError) → Type 0
AreOfBytes [] = Unit {0}
AreOfBytes ((fails, fault) ∷ more) = (is_fault_of_bytes fault ≡ true) × AreOfBytes more

-- checks with faults of the bytes, and a value or such a fault, give one or the other
pub checked : {A : Type 0} (list : List (Bool × ReadError)) (value : Result A ReadError) → AreOfBytes list → IsFaultOrOk value → IsFaultOrOk (unless list value)
checked [] value are good = good
checked ((fails, fault) ∷ more) value are good = choice fails (Err fault) (unless more value) are.0 (checked more value are.1 good)

-- the faults of an item's checks are of the bytes
pub item_checks : (h : Header) (raw : Raw) (at : ℕ) (item : Item) → AreOfBytes (checks h raw at item)
item_checks h raw at (InputItem lit) = (refl, (refl, (refl, tt)))
item_checks h raw at (LatchItem latch) = (refl, (refl, (refl, (refl, tt))))
item_checks h raw at (SafetyItem lit) = (refl, tt)
item_checks h raw at (SizeItem size) = (refl, tt)
item_checks h raw at (LivenessItem lit) = (refl, tt)
item_checks h raw at (GateItem gate) = (refl, (refl, (refl, tt)))
item_checks h raw at (SymbolItem symbol) = (refl, (refl, tt))

-- ---- lines

letter : (at : ℕ) (found : Option SymbolKind) → is_fault_of_bytes (malformed_symbol at found) ≡ true
letter at None = refl
letter at (Some kind) = refl

-- the fault of a line of a wrong form is one of the bytes
pub form : (section : Section) (at : ℕ) (line : List ℕ) → is_fault_of_bytes (malformed section at line) ≡ true
form Inputs at line = refl
form Latches at line = refl
form Safety at line = refl
form Sizes at line = refl
form Liveness at line = refl
form Gates at line = refl
form Symbols at [] = refl
form Symbols at (first ∷ bytes) = letter at (kind_of first)

item_taken : (h : Header) (raw : Raw) (at : ℕ) (fault : ReadError) (found : Option Item) → is_fault_of_bytes fault ≡ true → IsFaultOrOk (take_item h raw at fault found)
item_taken h raw at fault None of = of
item_taken h raw at fault (Some item) of = checked (checks h raw at item) (Ok (with_item raw item)) (item_checks h raw at item) tt

line_read : (h : Header) (raw : Raw) (at : ℕ) (line : List ℕ) → IsFaultOrOk (read_line h raw at line)
unfolding read_line
line_read h raw at line = item_taken h raw at (malformed (next_section h raw) at line) (item_of (next_section h raw) line) (form (next_section h raw) at line)

header_found : (found : Option Header) → IsFaultOrOk (checked_header found)
header_found None = refl
header_found (Some h) = checked (header_checks h) (Ok h) (refl, (refl, (refl, (refl, (refl, (refl, (refl, tt))))))) tt

header_read : (line : List ℕ) → IsFaultOrOk (read_header line)
unfolding read_header
header_read line = header_found (header_of line)

line_taken : (state : State) (line : List ℕ) → IsFaultOrOk (take_line state line)
line_taken AtHeader line = in_turn (read_header line) (λ h. Ok (InItems h nothing_yet (length line + 1))) (header_read line) (λ h. tt)
line_taken (InItems h raw at) line =
    choice (is_complete h raw && begins_comment line) (Ok (InComment h raw)) (read_line h raw at line >>= λ more. Ok (InItems h more (at + length line + 1))) tt
    (in_turn (read_line h raw at line) (λ more. Ok (InItems h more (at + length line + 1))) (line_read h raw at line) (λ more. tt))
line_taken (InComment h raw) line = tt

lines_taken : (ls : List (List ℕ)) (state : State) → IsFaultOrOk (take_lines state ls)
unfolding take_lines
lines_taken [] state = tt
lines_taken (line ∷ rest) state = in_turn (take_line state line) (λ next. take_lines next rest) (line_taken state line) (λ next. lines_taken rest next)

-- ---- the end

ordered_circuit : (h : Header) (found : Option Raw) → IsFaultOrOk (circuit_in_order h found)
ordered_circuit h None = refl
ordered_circuit h (Some raw) = tt

resolved : (h : Header) (raw : Raw) → IsFaultOrOk (resolve h raw)
resolved h raw = choice (is_resolved raw) (circuit_in_order h (in_order raw)) (Err Undefined) (ordered_circuit h (in_order raw)) refl

finished : (end : ℕ) (state : State) → IsFaultOrOk (finish end state)
finished end AtHeader = refl
finished end (InItems h raw at) = choice (is_complete h raw) (resolve h raw) (Err (Truncated end)) (resolved h raw) refl
finished end (InComment h raw) = resolved h raw

given : (bytes : List ℕ) → IsFaultOrOk (read_bytes bytes)
unfolding read_bytes
given bytes = in_turn (take_lines AtHeader (lines bytes)) (finish (length bytes)) (lines_taken (lines bytes) AtHeader) (finished (length bytes))

-- a fault that reading gives is one of the bytes, not of memory or of a reader
pub fault_of_bytes : (bytes : List ℕ) (e : ReadError) → read_bytes bytes ≡ Err e → is_fault_of_bytes e ≡ true
fault_of_bytes bytes e was = subst (λ (answer : Result Netlist ReadError). IsFaultOrOk answer) was (given bytes)
