-- The state of a reader of either spelling.
use Rattle.std.specs.Prelude.{ℕ, ◌≡◌, ◌<◌, List, length, Option, Some, None, Result, Ok, Err}
use Rattle.file_words.specs.declared.fault.ReadError.{ReadError}
use Rattle.file_words.specs.declared.fault.ReadError.TheVariants.{BadHeader}
use Rattle.aag_text.specs.Readers as ascii
use Rattle.binary_file.specs.Holding as binary
use Rattle.file_words.specs.declared.spelling.Spelling.{Spelling}
use Rattle.file_words.specs.declared.spelling.Spelling.TheVariants.{Ascii, Binary}
use Rattle.aig_binary.specs.Spellings.{spelling_of}
use Rattle.aig_binary.specs.declared.any_reader.AnyReader.{AnyReader}
use Rattle.aig_binary.specs.declared.any_reader.Phase.{Phase}
use Rattle.aig_binary.specs.declared.any_reader.Phase.TheVariants.{Letters, InAscii, InBinary, Neither}

-- these bytes have come: fewer than three, or such as the reader of their spelling holds, or
-- neither spelling's
abbrev pub PhaseHoldsEither : Phase → List ℕ → Type 0
PhaseHoldsEither (Letters letters) bytes = (letters.items ≡ bytes) × (length bytes < 3)
PhaseHoldsEither (InAscii reader) bytes = (spelling_of bytes ≡ Some Ascii) × ascii.Holds reader bytes
PhaseHoldsEither (InBinary reader) bytes = (spelling_of bytes ≡ Some Binary) × binary.HasBeenFed reader bytes
PhaseHoldsEither Neither bytes = (spelling_of bytes ≡ None) × (2 < length bytes)

-- the reader of either format was fed these bytes
abbrev pub HoldsEither : AnyReader → List ℕ → Type 0
HoldsEither reader bytes = PhaseHoldsEither reader.phase bytes

-- the error of a result, if it is one
abbrev pub fault_in : Result (Unit {0}) ReadError → Option ReadError
fault_in (Ok x) = None
fault_in (Err fault) = Some fault

-- the answer of each further call, if the file has a fault, or has ended
abbrev pub phase_fault : Phase → Option ReadError
phase_fault (Letters letters) = None
phase_fault (InAscii reader) = fault_in (ascii.standing reader)
phase_fault (InBinary reader) = binary.reader_fault reader
phase_fault Neither = Some (BadHeader 0)

-- the fault that a reader of either format has
abbrev pub fault_of_either : AnyReader → Option ReadError
fault_of_either reader = phase_fault reader.phase

-- the spelling that was read of the first three bytes
abbrev pub phase_spelling : Phase → Option Spelling
phase_spelling (Letters letters) = None
phase_spelling (InAscii reader) = Some Ascii
phase_spelling (InBinary reader) = Some Binary
phase_spelling Neither = None

-- the format that the first three bytes named
abbrev pub spelling_read : AnyReader → Option Spelling
spelling_read reader = phase_spelling reader.phase
