-- What becomes of a reader's bytes when a circuit is read from them.
use Rattle.std.specs.Prelude.{ℕ, ◌≡◌, ◌⊎◌, true, List, [], Some, Result, Ok, Err}
use Rattle.counted_io.specs.Input.{Input}
use Rattle.counted_io.specs.Output.{one_more}
use Rattle.file_words.specs.declared.fault.ReadError.{ReadError}
use Rattle.file_words.specs.declared.fault.ReadError.TheVariants.{NoMemory, Device}
use Rattle.file_words.specs.Codes.{is_fault_of_bytes}
use Rattle.aig_graph.specs.Circuits.{Netlist}
use Rattle.aig_binary.specs.Spellings.{spelling_of, read_any}
use Rattle.aig_binary.specs.declared.reading.SpeltCircuit.{SpeltCircuit}

-- the reader was read to its end, and no read failed
pub record ReadsToEnd (old new : Input) : Type 0 where
  pub bytes : (left : List ℕ) → old.bytes ≡ Some left → new.bytes ≡ Some []
  pub failures : new.failures ≡ old.failures

-- what the bytes that were left are read as, if those are known
pub record LeftBytesReadAs (old : Input) (read : Result Netlist ReadError) : Type 0 where
  pub bytes : (left : List ℕ) → old.bytes ≡ Some left → read_any left ≡ read

-- the bytes that were left, if known, are the circuit's in the spelling
pub record Spells (old : Input) (spelt : SpeltCircuit) : Type 0 where
  pub circuit : LeftBytesReadAs old (Ok spelt.circuit)
  pub spelling : (left : List ℕ) → old.bytes ≡ Some left → spelling_of left ≡ Some spelt.spelling

-- a read failed
pub record IsReadFailure (old new : Input) (e : ReadError) : Type 0 where
  pub error : e ≡ Device
  pub failures : new.failures ≡ one_more old.failures

-- memory ran out, and no read failed
pub record IsMemoryRefusal (old new : Input) (e : ReadError) : Type 0 where
  pub error : e ≡ NoMemory
  pub failures : new.failures ≡ old.failures

-- the bytes, read to their end, have this fault, which is none of memory's or of the reader
pub record IsFaultOfBytes (old new : Input) (e : ReadError) : Type 0 where
  pub read : ReadsToEnd old new
  pub fault : LeftBytesReadAs old (Err e)
  pub of_bytes : is_fault_of_bytes e ≡ true

-- why the reading stopped
abbrev pub StopsReading : Input → Input → ReadError → Type 0
StopsReading old new e = IsReadFailure old new e ⊎ IsMemoryRefusal old new e

-- why there is no circuit
abbrev pub IsReadError : Input → Input → ReadError → Type 0
IsReadError old new e = IsReadFailure old new e ⊎ IsMemoryRefusal old new e ⊎ IsFaultOfBytes old new e
