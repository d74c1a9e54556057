-- What a retiming and a conversion write, and what is reported of it.
use Rattle.std.specs.Prelude.{ℕ, ◌≡◌, Bool, true, false, List, Option, Some, None, Result, is_some, unwrap_or}
use Rattle.counted_io.specs.Input.{Input}
use Rattle.counted_io.specs.Output.{Output, WritesAll}
use Rattle.aig_binary.specs.Spellings.{text_in}
use Rattle.ascii_file.specs.Laws.{IsWithinLimits}
use Rattle.file_words.specs.declared.spelling.Spelling.{Spelling}
use Rattle.aig_binary.specs.declared.reading.SpeltCircuit.{SpeltCircuit}
use Rattle.aig_binary.specs.Ending.{Spells}
use Rattle.aig_graph.specs.Circuits.{Netlist}
use Rattle.state_maps.specs.MapCircuits.{FreeStay, IsMapCircuit}
use Rattle.merging_rounds.specs.declared.rounds.Rounds.{Rounds}
use Rattle.merging_rounds.specs.Following.{AreRoundsOf}
use Rattle.frames.specs.Answering.{IsAnswer, IsAnswered, ReadsBack, text_for}
use Rattle.frame_runs.specs.declared.options.Options.{Options}
use Rattle.counted_io.specs.Streams.{is_stdin, is_stdout}
use Rattle.counted_io.specs.declared.source.Source.{Source}
use Rattle.counted_io.specs.declared.target.Target.{Target}
use Rattle.command_line.specs.StreamUses.{takes_stdout, writes_stdout}
use Rattle.command_line.specs.declared.task.Retiming.{Retiming}
use Rattle.commands.specs.OtherSpelling.{spelling_for}
use Rattle.certificate_files.specs.Texts.{file_text as certificates_text}
use Rattle.json_reports.specs.declared.times.Times.{Times}
use Rattle.json_reports.specs.declared.counts.ReadLevels.{ReadLevels}
use Rattle.circuit_files.specs.WrittenFiles.{IsTargetGiven}
use Rattle.circuit_files.specs.declared.outcome.Outcome.{Outcome}
use Rattle.circuit_files.specs.declared.outcome.Failure.{Failure}
use Rattle.commands.specs.CertFiles.{file_of}
use Rattle.commands.specs.Classes.{AreClassesAt}
use Rattle.commands.specs.RetimingTasks.{AreOptionsFor, EndsPrintingFrames, SaysFrames, levels_reported}
use Rattle.commands.specs.declared.answer.Answer.{Answer}

-- a retiming from standard input to standard output, which gets the circuit alone
pub record IsPipe (task : Retiming) : Type 0 where
  pub stdin : is_stdin task.input ≡ true
  pub stdout : is_stdout task.output ≡ true
  pub alone : writes_stdout task.certificates ≡ false
  pub map_aside : writes_stdout task.map ≡ false

-- A map, if there is one, is that of the run: from the circuit that was read to the one that is
-- written. The free latches of the latter stay.
abbrev pub IsMapOf : Netlist → Rounds → Option Netlist → Type 0
IsMapOf c r None = Unit {0}
IsMapOf c r (Some m) = IsMapCircuit c r.circuit r.kept_free m × FreeStay c r.circuit m

-- Of a circuit that was read, this is the answer by the options, which is read back. Its held
-- latches are at `keep`, and the levels of the circuit that was read are reported. Its map is made
-- if that is asked for.
pub record IsAnswerOf (task : Retiming) (options : Options) (spelt : SpeltCircuit) (answer : Answer) : Type 0 where
  pub is : IsAnswer options spelt answer.rounds
  pub held : AreRoundsOf options spelt.circuit answer.rounds answer.keep
  pub reads_back : IsWithinLimits spelt.circuit → ReadsBack options spelt answer.rounds
  pub levels_are : answer.levels ≡ levels_reported task spelt.circuit
  pub spelling_is : answer.spelling ≡ unwrap_or options.spelling spelt.spelling
  pub map_is : IsMapOf spelt.circuit answer.rounds answer.map
  pub has_map : is_some answer.map ≡ is_some task.map

-- it was written, and nothing else
pub record IsAnswerTo (task : Retiming) (options : Options) (spelt : SpeltCircuit) (old new : Output) (answer : Answer) : Type 0 where
  pub of : IsAnswerOf task options spelt answer
  pub writes : WritesAll old new (text_for options spelt answer.rounds)

-- it was written to what the task writes
pub record IsAnswerAt (FileGiven : List ℕ → List ℕ → Type 0) (task : Retiming) (options : Options) (spelt : SpeltCircuit) (old new : Output) (answer : Answer) : Type 0 where
  pub of : IsAnswerOf task options spelt answer
  pub writes : IsTargetGiven FileGiven task.output old new (text_for options spelt answer.rounds)

-- So was the answer, by the options of the task, of what it reads: of standard input, of the bytes
-- that were left. Merged latches that are given are read after the circuit.
pub record WritesAnswer (FileGiven : List ℕ → List ℕ → Type 0) (task : Retiming) (input : Input) (old new : Output) (answer : Answer) : Type 0 where
  pub options : Options
  pub are_options : AreOptionsFor task options
  pub spelt : SpeltCircuit
  pub read : is_stdin task.input ≡ true → Spells input spelt
  pub between : Input
  pub still : is_stdin task.input ≡ false → between ≡ input
  pub left : Input
  pub classes_are : AreClassesAt task.classes between left options.classes
  pub at : IsAnswerAt FileGiven task options spelt old new answer

-- a map was written to this, if that is asked for
abbrev pub WritesMap : (List ℕ → List ℕ → Type 0) → Option Target → Spelling → Option Netlist → Output → Output → Type 0
WritesMap FileGiven (Some target) spelling (Some m) old new = IsTargetGiven FileGiven target old new (text_in spelling m)
WritesMap FileGiven (Some target) spelling None old new = new ≡ old
WritesMap FileGiven None spelling made old new = new ≡ old

-- the text of a retiming's certificates, with the latches that were merged, if they were to be
abbrev pub blocks_text : Retiming → Rounds → List ℕ
blocks_text task r = certificates_text (file_of task.options.choice r)

-- so were the certificates
abbrev pub WritesCertificates : (List ℕ → List ℕ → Type 0) → Option Target → List ℕ → Output → Output → Type 0
WritesCertificates FileGiven (Some target) text old new = IsTargetGiven FileGiven target old new text
WritesCertificates FileGiven None text old new = new ≡ old

-- the map of an answer was written, and then its certificates
pub record WritesBeside (FileGiven : List ℕ → List ℕ → Type 0) (task : Retiming) (answer : Answer) (old new : Output) : Type 0 where
  pub between : Output
  pub map_goes : WritesMap FileGiven task.map answer.spelling answer.map old between
  pub certificates_go : WritesCertificates FileGiven task.certificates (blocks_text task answer.rounds) between new

-- all that a retiming writes was written: the answer of what the task reads, its map, and its
-- certificates
pub record WritesRetiming (FileGiven : List ℕ → List ℕ → Type 0) (task : Retiming) (input : Input) (old new : Output) (answer : Answer) : Type 0 where
  pub between : Output
  pub circuit : WritesAnswer FileGiven task input old between answer
  pub beside : WritesBeside FileGiven task answer between new

-- The answer of what the task reads was written with all that is asked for, and then it was
-- printed. It was printed on standard output, or if a circuit, a map or certificates went there, on
-- standard error. A terminal is told more.
pub record PrintsRetiming (FileGiven : List ℕ → List ℕ → Type 0) (task : Retiming) (is_terminal : Bool) (input : Input) (old new said : Output) (result : Result Outcome Failure) : Type 0 where
  pub answer : Answer
  pub times : Option Times
  pub between : Output
  pub written : WritesRetiming FileGiven task input old between answer
  pub printed : takes_stdout task ≡ false → EndsPrintingFrames task.json task answer times between new result
  pub quiet : takes_stdout task ≡ true → new ≡ between
  pub shown : Output
  pub aside : takes_stdout task ≡ true → is_terminal ≡ false → SaysFrames task answer times shown said

-- The answer by the options of the task was written, and nothing else. It is of the bytes that
-- standard input had left. The levels are those of the circuit of the bytes.
pub record AnswersPipe (task : Retiming) (input : Input) (old new : Output) (rounds : Rounds) (levels : ReadLevels) : Type 0 where
  pub options : Options
  pub are_options : AreOptionsFor task options
  pub answered : IsAnswered input old new options rounds
  pub levels_are : levels ≡ levels_reported task answered.spelt.circuit

-- that is so of some retiming
pub record WritesPipe (task : Retiming) (input : Input) (old new : Output) : Type 0 where
  pub rounds : Rounds
  pub levels : ReadLevels
  pub answers : AnswersPipe task input old new rounds levels

-- The circuit that is read was written in the chosen spelling, else in the one that wasn't read. Of
-- standard input it is that of the bytes that were left.
pub record Converts (FileGiven : List ℕ → List ℕ → Type 0) (chosen : Option Spelling) (source : Source) (target : Target) (input : Input) (old new : Output) : Type 0 where
  pub spelt : SpeltCircuit
  pub read : is_stdin source ≡ true → Spells input spelt
  pub writes : IsTargetGiven FileGiven target old new (text_in (spelling_for spelt.spelling chosen) spelt.circuit)
