-- The state of a reader after the header, and after more bytes.
use Rattle.std.specs.Prelude.{ℕ, ◌≡◌, ◌+◌, List, length, Result, Ok, Err}
use Rattle.std.specs.Borrow.{Bor}
use Rattle.aig_graph.specs.Circuits.{Netlist}
use Rattle.file_words.specs.declared.fault.ReadError.{ReadError}
use Rattle.file_words.specs.declared.fault.ReadError.TheVariants.{NoMemory}
use Rattle.file_words.specs.Answering.{◌>>=◌, Fails}
use Rattle.binary_file.specs.Reading.{State, feed, finish, circuit_of}
use Rattle.binary_file.specs.declared.items.Items.{Items}
use Rattle.binary_file.specs.Opened.{IsOpened}

-- the reader is in the state of reading after n bytes
abbrev pub Stands : Items → ℕ → State → Type 0
Stands items offset state = IsOpened items.sections items.at offset items.opened state

-- on Ok the reader is in the state of reading; an error is the fault of reading, unless memory ran
-- out
abbrev pub StandsAfterReading : {X : Type 0} → Items → ℕ → Result X ReadError → Result State ReadError → Type 0
StandsAfterReading new offset (Ok x) read = (next : State) × (read ≡ Ok next) × Stands new offset next
StandsAfterReading new offset (Err error) read = Fails NoMemory error read

-- bytes of a piece that ends at an offset were taken: reading the piece is reading what is left
pub record IsFed (new : Items) (end : ℕ) (state : State) (piece left : List ℕ) : Type 0 where
  pub next : State
  pub offset : ℕ
  pub stands : Stands new offset next
  pub place : offset + length left ≡ end
  pub fed : feed state piece ≡ feed next left

abbrev pub Feeds : Items → ℕ → State → List ℕ → Result (Bor (List ℕ)) ReadError → Type 0
Feeds new end state piece (Ok left) = IsFed new end state piece left.now
Feeds new end state piece (Err error) = Fails NoMemory error (feed state piece)

-- the circuit of an input of this length, by the state of reading at its end
abbrev pub circuit_at : ℕ → State → Result Netlist ReadError
circuit_at end state = finish end state >>= λ all. Ok (circuit_of all.0 all.1)
