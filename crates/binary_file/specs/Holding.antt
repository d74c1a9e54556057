-- The bytes that were fed to a reader.
use Rattle.std.specs.Prelude.{ℕ, ◌≡◌, List, [], length, Option, None, Result, Ok, Err}
use Rattle.file_words.specs.declared.fault.ReadError.{ReadError}
use Rattle.file_words.specs.declared.fault.ReadError.TheVariants.{NoMemory}
use Rattle.file_words.specs.Answering.{Fails}
use Rattle.binary_file.specs.Reading.{State, AtHeader, feed}
use Rattle.binary_file.specs.declared.reader.AigReader.{AigReader}
use Rattle.binary_file.specs.Stages.{HoldsStage, failure}

-- The reader was fed these bytes, in whatever pieces. Its state is theirs, or it failed with their
-- fault or for want of memory. Its offset is their number, unless it failed.
pub record HasBeenFed (reader : AigReader) (bytes : List ℕ) : Type 0 where
  pub count : failure reader.stage ≡ None → length bytes ≡ reader.offset
  pub stage : HoldsStage reader.stage bytes

-- at Ok the bytes have no fault so far; an error is theirs, unless memory ran out
abbrev pub Answers : Result (Unit {0}) ReadError → List ℕ → Type 0
Answers (Ok x) bytes = (state : State) × (feed (AtHeader []) bytes ≡ Ok state)
Answers (Err fault) bytes = Fails NoMemory fault (feed (AtHeader []) bytes)

-- the fault that every call answers from now on, if there is one
abbrev pub reader_fault : AigReader → Option ReadError
reader_fault reader = failure reader.stage
