-- What a reader of circuits answers to the bytes that it has been given.
use Rattle.std.specs.Prelude.{ℕ, ◌++◌, ◌≡◌, ◌⊎◌, true, List, Err}
use Rattle.file_words.specs.declared.fault.ReadError.{ReadError}
use Rattle.file_words.specs.declared.fault.ReadError.TheVariants.{NoMemory}
use Rattle.file_words.specs.Codes.{is_fault_of_bytes}
use Rattle.aig_binary.specs.Spellings.{read_any}

-- the bytes have this fault, whatever follows them
pub record FailsFrom (bytes : List ℕ) (e : ReadError) : Type 0 where
  pub of_bytes : is_fault_of_bytes e ≡ true
  pub fault : (rest : List ℕ) → read_any (bytes ++ rest) ≡ Err e

-- the bytes have this fault if nothing follows them
pub record FailsAtEnd (bytes : List ℕ) (e : ReadError) : Type 0 where
  pub of_bytes : is_fault_of_bytes e ≡ true
  pub fault : read_any bytes ≡ Err e

-- why one more piece was refused: memory, or a fault
abbrev pub IsFeedError : List ℕ → ReadError → Type 0
IsFeedError bytes e = (e ≡ NoMemory) ⊎ FailsFrom bytes e

-- why the end of the bytes was refused: memory, or a fault
abbrev pub IsFinishError : List ℕ → ReadError → Type 0
IsFinishError bytes e = (e ≡ NoMemory) ⊎ FailsAtEnd bytes e
