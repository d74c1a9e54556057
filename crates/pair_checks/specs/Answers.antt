-- What a check of two circuits answers.
use Rattle.std.specs.Prelude.{ℕ, List}
use Rattle.aig_graph.specs.Circuits.{Netlist}
use Rattle.aig_graph.specs.Streams.{SameShape, SameStreams}
use Rattle.gate_sharing.specs.declared.errors.SharingError.{SharingError}
use Rattle.gate_sharing.specs.declared.errors.SharingError.TheVariants.{NoMemory as NoRoom, TooLarge as Full}
use Rattle.pair_checks.specs.Pairs.{ReadAlike}
use Rattle.pair_checks.specs.declared.answer.PairAnswer.{PairAnswer}
use Rattle.pair_checks.specs.declared.answer.PairAnswer.TheVariants.{Equal, NotShown}
use Rattle.pair_checks.specs.declared.errors.PairError.{PairError}
use Rattle.pair_checks.specs.declared.errors.PairError.TheVariants.{NoMemory, TooLarge}

abbrev pub pair_error : SharingError → PairError
pair_error NoRoom = NoMemory
pair_error Full = TooLarge

-- the properties are equal in all states in which the latches hold what they read as; what isn't
-- shown claims nothing
abbrev pub IsAnswerUnder : Netlist → Netlist → List ℕ → PairAnswer → Type 0
IsAnswerUnder c d reads Equal = ReadAlike c d reads
IsAnswerUnder c d reads (NotShown obligation shown all) = Unit {0}

-- the properties of both have equal values at each step; if that isn't shown, both have one shape
abbrev pub IsAnswer : Netlist → Netlist → List ℕ → PairAnswer → Type 0
IsAnswer c d kept Equal = SameStreams c d kept
IsAnswer c d kept (NotShown obligation shown all) = SameShape c d
