-- What `miter` makes of a map, and what is written.
use Rattle.std.specs.Prelude.{ℕ, ◌≡◌, List, unwrap_or}
use Rattle.aig_graph.specs.Streams.{SameShape}
use Rattle.map_checks.specs.Answers.{AreFitting, IsMap}
use Rattle.map_miters.specs.Miters.{IsMiter}
use Rattle.file_words.specs.declared.fault.ReadError.TheVariants.{TooLarge}
use Rattle.counted_io.specs.Input.{Input}
use Rattle.counted_io.specs.Output.{Output}
use Rattle.counted_io.specs.Streams.{source_name, target_name}
use Rattle.command_line.specs.declared.task.Asking.{Asking}
use Rattle.circuit_files.specs.declared.outcome.Outcome.{Outcome}
use Rattle.circuit_files.specs.declared.outcome.Failure.{Failure}
use Rattle.circuit_files.specs.declared.outcome.Failure.TheVariants as fails
use Rattle.map_commands.specs.declared.given.Mapped.{Mapped}
use Rattle.map_commands.specs.declared.made.Made.{Made}
use Rattle.map_commands.specs.declared.made.Made.TheVariants.{Circuit, ShapesDiffer}
use Rattle.map_commands.specs.Fitting.{IsMisfit}
use Rattle.map_commands.specs.Making.{EndsMaking}
use Rattle.map_commands.specs.Reading.{AreReadWithMap}

-- what is made of the circuits and the map that are read
abbrev pub IsMadeOf : Mapped → Made → Type 0
IsMadeOf mapped (Circuit r) = IsMap mapped.map.circuit × AreFitting mapped.pair.first.circuit mapped.pair.second.circuit mapped.map.circuit
    × IsMiter mapped.pair.first.circuit mapped.pair.second.circuit mapped.map.circuit r
IsMadeOf mapped ShapesDiffer = IsMap mapped.map.circuit × (SameShape mapped.pair.first.circuit mapped.pair.second.circuit → ⊥)

-- why nothing is made of them: the map isn't one of theirs, or what would be made has too many
-- variables; memory may run out
abbrev pub IsFailureToAsk : Asking → Mapped → Failure → Type 0
IsFailureToAsk task mapped (fails.NotAMap path) = (path.now ≡ source_name task.map) × (IsMap mapped.map.circuit → IsMisfit mapped.pair.first.circuit mapped.pair.second.circuit mapped.map.circuit)
IsFailureToAsk task mapped (fails.Refused path fault) = (path.now ≡ target_name task.output) × (fault ≡ TooLarge 0)
IsFailureToAsk task mapped fails.Memory = Unit {0}
IsFailureToAsk task mapped failure = ⊥

-- what is made of the files that are read is written, in the spelling that is chosen, else in that
-- of the map
pub record PrintsMiter (FileGiven : List ℕ → List ℕ → Type 0) (task : Asking) (before after : Input) (old new : Output) (ended : Outcome) : Type 0 where
  pub mapped : Mapped
  pub read : AreReadWithMap task.input task.retimed task.map before after mapped
  pub made : Made
  pub is : IsMadeOf mapped made
  pub printed : EndsMaking FileGiven made (unwrap_or task.spelling mapped.map.spelling) task.output old new ended
