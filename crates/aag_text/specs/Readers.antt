-- The state of a reader.
use Rattle.std.specs.Prelude.{ℕ, ◌≡◌, List, length, Result, Ok, Err}
use Rattle.aig_graph.specs.Circuits.{Netlist}
use Rattle.file_words.specs.declared.fault.ReadError.{ReadError}
use Rattle.file_words.specs.declared.fault.ReadError.TheVariants.{BadHeader, NoMemory}
use Rattle.file_words.specs.Answering.{Fails}
use Rattle.ascii_file.specs.Pieces.{fed}
use Rattle.aag_text.specs.declared.reader.AagReader.{AagReader}
use Rattle.aag_text.specs.declared.reader.Phase.{Phase}
use Rattle.aag_text.specs.declared.reader.Phase.TheVariants.{Header, Items, Failed}
use Rattle.aag_text.specs.Beginning.{Awaits}
use Rattle.aag_text.specs.Standing.{Hold}

-- these bytes have come, and have no fault
abbrev pub PhaseReads : Phase → ℕ → List ℕ → Type 0
PhaseReads (Header line) len bytes = Awaits line bytes × (len ≡ length bytes)
PhaseReads (Items items) len bytes = Hold items bytes × (len ≡ length bytes)
PhaseReads (Failed fault) len bytes = ⊥

-- these bytes have come: they have no fault, or the reader has failed with theirs, or for want of
-- memory
abbrev pub PhaseHolds : Phase → ℕ → List ℕ → Type 0
PhaseHolds (Header line) len bytes = PhaseReads (Header line) len bytes
PhaseHolds (Items items) len bytes = PhaseReads (Items items) len bytes
PhaseHolds (Failed fault) len bytes = Fails NoMemory fault (fed bytes)

abbrev pub HasReadBytes : AagReader → List ℕ → Type 0
HasReadBytes reader bytes = PhaseReads reader.phase reader.taken bytes

-- The reader was fed these bytes, in whatever pieces. Its state is theirs, or it failed with their
-- fault or for want of memory.
abbrev pub Holds : AagReader → List ℕ → Type 0
Holds reader bytes = PhaseHolds reader.phase reader.taken bytes

-- with what the reader has failed, if it has
abbrev pub phase_standing : Phase → Result (Unit {0}) ReadError
phase_standing (Header line) = Ok tt
phase_standing (Items items) = Ok tt
phase_standing (Failed fault) = Err fault

-- what a reader has failed with, if it has; further calls answer it
abbrev pub standing : AagReader → Result (Unit {0}) ReadError
standing reader = phase_standing reader.phase

-- what a reader answers that has finished so
abbrev pub after_finish : Result Netlist ReadError → ReadError
after_finish (Ok circuit) = BadHeader 0
after_finish (Err fault) = fault
