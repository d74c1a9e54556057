-- What the commands `backward` and `enables` do.
use Rattle.std.specs.Prelude.{ℕ, ◌≡◌, Bool, true, false, List, Option, Some, None, Ok, unwrap_or}
use Rattle.counted_io.specs.Input.{Input}
use Rattle.counted_io.specs.Output.{Output}
use Rattle.aig_binary.specs.Spellings.{text_in}
use Rattle.aig_binary.specs.declared.reading.SpeltCircuit.{SpeltCircuit}
use Rattle.frame_runs.specs.Bounds.{levels_named}
use Rattle.reports.specs.CircuitCounts.{counts}
use Rattle.aig_graph.specs.Circuits.{Netlist}
use Rattle.backward_circuits.specs.Drawn.{HasOtherLatches}
use Rattle.backward_circuits.specs.MovedBack.{IsMovedBack}
use Rattle.class_retiming.specs.Answered.{IsMovedOrStays}
use Rattle.counted_io.specs.declared.target.Target.{Target}
use Rattle.command_line.specs.StreamUses.{moving_takes_stdout}
use Rattle.command_line.specs.declared.task.MoveKind.{MoveKind}
use Rattle.command_line.specs.declared.task.MoveKind.TheVariants.{Backward, Enables}
use Rattle.command_line.specs.declared.task.Moving.{Moving}
use Rattle.circuit_files.specs.WrittenFiles.{IsTargetGiven}
use Rattle.circuit_files.specs.declared.outcome.Outcome.{Outcome}
use Rattle.command_endings.specs.HeldNames.{held_by}
use Rattle.command_endings.specs.Sources.{IsCircuitAt}
use Rattle.moving_commands.specs.Printing.{EndsPrintingMoves, SaysMoves}
use Rattle.moving_commands.specs.declared.answering.Answer.{Answer}
use Rattle.moving_commands.specs.declared.engines.MovedCircuit.{MovedCircuit}

-- a circuit and a map that c may become by the command
abbrev pub IsMovedBy : MoveKind → Netlist → List ℕ → Option ℕ → MovedCircuit → Type 0
IsMovedBy Backward c held bound moved = IsMovedBack c held bound moved.circuit moved.map × HasOtherLatches c moved.circuit
IsMovedBy Enables c held bound moved = IsMovedOrStays c held bound moved.circuit moved.map

-- the circuit that was read, with its latches moved as the task asks, and its map. Beside them is
-- what it had, and in which format both are written.
pub record IsMoveAnswerOf (task : Moving) (spelt : SpeltCircuit) (answer : Answer) : Type 0 where
  pub moved : IsMovedBy task.kind spelt.circuit (held_by task.options spelt.circuit) (levels_named task.options.bound) answer.moved
  pub before : answer.before ≡ counts spelt.circuit
  pub spelling : answer.spelling ≡ unwrap_or task.options.spelling spelt.spelling

-- the same of what the task reads
pub record AnswersTask (task : Moving) (before after : Input) (answer : Answer) : Type 0 where
  pub spelt : SpeltCircuit
  pub read : IsCircuitAt task.input before after spelt
  pub is : IsMoveAnswerOf task spelt answer

-- a text was written to this, where that is asked for, by what it means that a file was given one
abbrev pub WritesIfAsked : (List ℕ → List ℕ → Type 0) → Option Target → List ℕ → Output → Output → Type 0
WritesIfAsked FileGiven (Some target) text old new = IsTargetGiven FileGiven target old new text
WritesIfAsked FileGiven None text old new = new ≡ old

-- the circuit of an answer was written, and then its map, where that is asked for
pub record WritesMoves (FileGiven : List ℕ → List ℕ → Type 0) (task : Moving) (answer : Answer) (old new : Output) : Type 0 where
  pub between : Output
  pub circuit : IsTargetGiven FileGiven task.output old between (text_in answer.spelling answer.moved.circuit)
  pub mapping : WritesIfAsked FileGiven task.map (text_in answer.spelling answer.moved.map) between new

-- The answer of what the task reads was written, and then what was done printed on standard output.
-- If a circuit or a map went there, it is on standard error, where a terminal is told more.
pub record PrintsMoves (FileGiven : List ℕ → List ℕ → Type 0) (task : Moving) (is_terminal : Bool) (before after : Input) (old new said : Output) (ended : Outcome) : Type 0 where
  pub answer : Answer
  pub answers : AnswersTask task before after answer
  pub between : Output
  pub written : WritesMoves FileGiven task answer old between
  pub printed : moving_takes_stdout task ≡ false → EndsPrintingMoves task.json task answer between new (Ok ended)
  pub quiet : moving_takes_stdout task ≡ true → new ≡ between
  pub shown : Output
  pub aside : moving_takes_stdout task ≡ true → is_terminal ≡ false → SaysMoves task answer shown said
