-- What `miter` makes of a map with a certificate, and what is written.
use Rattle.std.specs.Prelude.{ℕ, ◌≡◌, List, unwrap_or, Option, Some, None}
use Rattle.aig_graph.specs.Streams.{SameShape}
use Rattle.map_checks.specs.Answers.{AreFitting, IsMap}
use Rattle.map_miters.specs.declared.goals.Goal.{Goal}
use Rattle.map_miters.specs.declared.goals.Goal.TheVariants.{Agree, Mapped as IsMapped}
use Rattle.map_miters.specs.Products.{IsProduct}
use Rattle.file_words.specs.declared.fault.ReadError.TheVariants.{TooLarge}
use Rattle.file_words.specs.declared.spelling.Spelling.{Spelling}
use Rattle.aig_binary.specs.Spellings.{text_in}
use Rattle.reports.specs.Differences.{shapes_text}
use Rattle.counted_io.specs.Input.{Input}
use Rattle.counted_io.specs.Output.{Output}
use Rattle.counted_io.specs.Streams.{source_name, target_name}
use Rattle.counted_io.specs.declared.target.Target.{Target}
use Rattle.command_line.specs.declared.task.Asking.{Asking}
use Rattle.circuit_files.specs.WrittenFiles.{IsTargetGiven}
use Rattle.circuit_files.specs.declared.outcome.Outcome.{Outcome}
use Rattle.circuit_files.specs.declared.outcome.Outcome.TheVariants as ends
use Rattle.circuit_files.specs.declared.outcome.Failure.{Failure}
use Rattle.circuit_files.specs.declared.outcome.Failure.TheVariants as fails
use Rattle.command_endings.specs.Printing.{EndsWith}
use Rattle.map_commands.specs.declared.given.Mapped.{Mapped}
use Rattle.map_commands.specs.declared.products.Machines.{Machines}
use Rattle.map_commands.specs.declared.products.Shown.{Shown}
use Rattle.map_commands.specs.declared.products.Shown.TheVariants as shows
use Rattle.map_commands.specs.Asking.{PrintsMiter}
use Rattle.map_commands.specs.Fitting.{IsMisfit}
use Rattle.map_commands.specs.Reading.{AreReadWithMap}

-- both circuits side by side: as a model whose bad state says that a property differs, and as its
-- witness circuit by the map
pub record AreMachinesOf (mapped : Mapped) (machines : Machines) : Type 0 where
  pub model : IsProduct Agree mapped.pair.first.circuit mapped.pair.second.circuit mapped.map.circuit machines.model
  pub witness : IsProduct IsMapped mapped.pair.first.circuit mapped.pair.second.circuit mapped.map.circuit machines.witness

-- what is made of the circuits and the map that are read
abbrev pub AreMadeSideBySide : Mapped → Shown → Type 0
AreMadeSideBySide mapped (shows.Machines machines) = IsMap mapped.map.circuit × AreFitting mapped.pair.first.circuit mapped.pair.second.circuit mapped.map.circuit × AreMachinesOf mapped machines
AreMadeSideBySide mapped shows.ShapesDiffer = IsMap mapped.map.circuit × (SameShape mapped.pair.first.circuit mapped.pair.second.circuit → ⊥)

-- what a machine is written to, by its goal
abbrev pub target_for : Goal → Asking → Target → Target
target_for Agree task certificate = task.output
target_for IsMapped task certificate = certificate

-- why nothing is made: the map isn't one of theirs, or one of the machines would have too many
-- variables; memory may run out
abbrev pub IsFailureToMake : Asking → Target → Mapped → Failure → Type 0
IsFailureToMake task certificate mapped (fails.NotAMap path) = (path.now ≡ source_name task.map) × (IsMap mapped.map.circuit → IsMisfit mapped.pair.first.circuit mapped.pair.second.circuit mapped.map.circuit)
IsFailureToMake task certificate mapped (fails.Refused path fault) = ((goal : Goal) × (path.now ≡ target_name (target_for goal task certificate))) × (fault ≡ TooLarge 0)
IsFailureToMake task certificate mapped fails.Memory = Unit {0}
IsFailureToMake task certificate mapped failure = ⊥

-- the model is written, and then the witness circuit, by what it means that a file was given a text
pub record EndsWritingBoth (FileGiven : List ℕ → List ℕ → Type 0) (machines : Machines) (spelling : Spelling) (output certificate : Target) (old new : Output) (ended : Outcome) : Type 0 where
  pub ends : ended ≡ ends.Done
  pub between : Output
  pub model : IsTargetGiven FileGiven output old between (text_in spelling machines.model)
  pub witness : IsTargetGiven FileGiven certificate between new (text_in spelling machines.witness)

-- how a run ends: it wrote the model and its witness circuit, or says that the shapes differ
abbrev pub EndsShowing : (List ℕ → List ℕ → Type 0) → Shown → Spelling → Target → Target → Output → Output → Outcome → Type 0
EndsShowing FileGiven (shows.Machines machines) spelling output certificate old new ended = EndsWritingBoth FileGiven machines spelling output certificate old new ended
EndsShowing FileGiven shows.ShapesDiffer spelling output certificate old new ended = EndsWith ends.ShapesDiffer shapes_text old new ended

-- what is made of the files that are read is written, in the spelling that is chosen, else in that
-- of the map
pub record PrintsProduct (FileGiven : List ℕ → List ℕ → Type 0) (certificate : Target) (task : Asking) (before after : Input) (old new : Output) (ended : Outcome) : Type 0 where
  pub mapped : Mapped
  pub read : AreReadWithMap task.input task.retimed task.map before after mapped
  pub shown : Shown
  pub is : AreMadeSideBySide mapped shown
  pub printed : EndsShowing FileGiven shown (unwrap_or task.spelling mapped.map.spelling) task.output certificate old new ended

-- a miter of the map, and if a certificate is asked for, both circuits side by side with that
abbrev pub PrintsAsked : (List ℕ → List ℕ → Type 0) → Option Target → Asking → Input → Input → Output → Output → Outcome → Type 0
PrintsAsked FileGiven None task before after old new ended = PrintsMiter FileGiven task before after old new ended
PrintsAsked FileGiven (Some certificate) task before after old new ended = PrintsProduct FileGiven certificate task before after old new ended
