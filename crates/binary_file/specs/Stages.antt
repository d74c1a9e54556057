-- What a reader holds of the bytes that were fed.
use Rattle.std.specs.Prelude.{ℕ, ◌≡◌, List, [], ◌++◌, length, Option, Some, None, Result, Ok, Err, codes}
use Rattle.file_words.specs.declared.fault.ReadError.{ReadError}
use Rattle.file_words.specs.declared.fault.ReadError.TheVariants.{NoMemory}
use Rattle.file_words.specs.Answering.{Fails}
use Rattle.ascii_file.specs.declared.parts.header_line.HeaderLine.{HeaderLine}
use Rattle.ascii_file.specs.parts.Header.{header_row, header_with}
use Rattle.binary_file.specs.Reading.{State, AtHeader, feed}
use Rattle.binary_file.specs.declared.items.Items.{Items}
use Rattle.binary_file.specs.declared.stage.Stage.{Stage}
use Rattle.binary_file.specs.declared.stage.Stage.TheVariants as stage
use Rattle.binary_file.specs.Standing.{Stands}

-- all bytes are of the first line
pub record HoldsHeader (line : HeaderLine) (bytes : List ℕ) : Type 0 where
  pub reading : feed (AtHeader []) bytes ≡ Ok (AtHeader bytes)
  pub line_is : (rest : List ℕ) → header_with line rest ≡ header_row (codes "aig ") (bytes ++ rest)

-- the items are in the state of reading after the bytes
pub record HoldsItems (items : Items) (bytes : List ℕ) : Type 0 where
  pub state : State
  pub reading : feed (AtHeader []) bytes ≡ Ok state
  pub stands : Stands items (length bytes) state

-- what has come without a fault
abbrev pub HoldsOpen : Stage → List ℕ → Type 0
HoldsOpen (stage.Header line) bytes = HoldsHeader line bytes
HoldsOpen (stage.Items items) bytes = HoldsItems items bytes
HoldsOpen (stage.Failed fault) bytes = ⊥

-- it holds the bytes, or their fault, unless memory ran out
abbrev pub HoldsStage : Stage → List ℕ → Type 0
HoldsStage (stage.Failed fault) bytes = Fails NoMemory fault (feed (AtHeader []) bytes)
HoldsStage sound bytes = HoldsOpen sound bytes

-- what was made of the bytes
abbrev pub HoldsResult : Result Stage ReadError → List ℕ → Type 0
HoldsResult (Ok sound) bytes = HoldsOpen sound bytes
HoldsResult (Err fault) bytes = Fails NoMemory fault (feed (AtHeader []) bytes)

-- the fault that every call answers
abbrev pub failure : Stage → Option ReadError
failure (stage.Failed fault) = Some fault
failure sound = None
