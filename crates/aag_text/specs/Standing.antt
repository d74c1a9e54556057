-- The state of the items that have been read.
use Rattle.std.specs.Prelude.{ℕ, ◌≡◌, ◌+◌, Bool, true, false, List, [], ◌++◌, length, Result, Ok, Err}
use Rattle.file_words.specs.declared.fault.ReadError.{ReadError}
use Rattle.file_words.specs.declared.fault.ReadError.TheVariants.{NoMemory}
use Rattle.file_words.specs.Answering.{Fails}
use Rattle.ascii_file.specs.Raw.{RawSymbol}
use Rattle.ascii_file.specs.Reading.{State, InItems, InComment, is_complete, take_line}
use Rattle.ascii_file.specs.Pieces.{open_line, fed}
use Rattle.aag_text.specs.declared.sections.Sections.{Sections}
use Rattle.aag_text.specs.Taking.{raw_of, IsAt}
use Rattle.aag_text.specs.declared.lines.OpenLine.{OpenLine}
use Rattle.aag_text.specs.declared.items.Items.{Items}
use Rattle.aag_text.specs.Lines.{IsOpen, is_comment}

-- the state of sections with these symbols: in the comment, or at the offset of the open line
abbrev pub state_of : Sections → List RawSymbol → Bool → ℕ → State
state_of m symbols true at = InComment m.header (raw_of m symbols)
state_of m symbols false at = InItems m.header (raw_of m symbols) at

-- the sections stand at the state, after these bytes of the open line
pub record StandAt (m : Sections) (line : OpenLine) (at : ℕ) (state : State) (begun : List ℕ) : Type 0 where
  pub symbols : List RawSymbol
  pub sections : IsAt m symbols
  pub is_state : state ≡ state_of m symbols (is_comment line) at
  pub is_open : IsOpen line (is_complete m.header (raw_of m symbols)) begun

-- the items are in the state after the bytes, which have no fault
pub record Hold (items : Items) (bytes : List ℕ) : Type 0 where
  pub state : State
  pub leads : fed bytes ≡ Ok state
  pub stands : StandAt items.sections items.line items.at state (open_line bytes)
  pub ends : items.at + length (open_line bytes) ≡ length bytes

-- the items stand after the first of these bytes, and the others are left
pub record HoldBefore (items : Items) (left bytes : List ℕ) : Type 0 where
  pub taken : List ℕ
  pub parts : taken ++ left ≡ bytes
  pub hold : Hold items taken

-- P at Ok; an error is the fault that reading gives, unless memory ran out
abbrev pub HoldsOrFaults : {X Y : Type 0} → Type 0 → Result X ReadError → Result Y ReadError → Type 0
HoldsOrFaults P (Ok x) read = P
HoldsOrFaults P (Err error) read = Fails NoMemory error read

-- What a function returned is what reading gives, and Stands holds of that; unless memory ran out.
abbrev pub LeadsToStanding : {X Y : Type 0} → (Y → Type 0) → Result X ReadError → Result Y ReadError → Type 0
LeadsToStanding {Y} Stands (Ok x) read = (y : Y) × (read ≡ Ok y) × Stands y
LeadsToStanding Stands (Err error) read = Fails NoMemory error read

-- What taking the open line returned, whose bytes are these. It is the state after the line, in
-- which the new items are with no byte of the next line; or its fault.
abbrev pub TakesLine : {X : Type 0} → Items → Items → State → List ℕ → Result X ReadError → Type 0
TakesLine old new state line result = LeadsToStanding (λ next. StandAt new.sections new.line (old.at + length line + 1) next []) result (take_line state line)
