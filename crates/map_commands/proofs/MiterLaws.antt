-- The miter of circuits and a map that fit together.
use Rattle.std.proofs.Common.{ℕ, ◌≡◌, IfOk, List, Result, subst, unwrap_or}
use Rattle.std.proofs.lemmas.Result.{IfOk-weaker}
use Rattle.aig_graph.specs.Circuits.{Netlist}
use Rattle.map_checks.specs.Answers.{AreFitting, IsMap}
use Rattle.map_miters.specs.Questions.{IsAskable}
use Rattle.file_words.specs.declared.spelling.Spelling.{Spelling}
use Rattle.counted_io.specs.Input.{Input}
use Rattle.counted_io.specs.Output.{Output}
use Rattle.command_line.specs.declared.task.Asking.{Asking}
use Rattle.circuit_files.specs.declared.outcome.Outcome.{Outcome}
use Rattle.circuit_files.specs.declared.outcome.Failure.{Failure}
use Rattle.map_commands.specs.declared.given.Mapped.{Mapped}
use Rattle.map_commands.specs.declared.made.Made.{Made}
use Rattle.map_commands.specs.Asking.{IsMadeOf, PrintsMiter}
use Rattle.map_commands.specs.Making.{EndsMaking}
use Rattle.map_commands.specs.Reading.{AreReadWithMap}

-- the questions can be asked of a map that fits both circuits
pub askable : (c d m : Netlist) → IsMap m → AreFitting c d m → IsAskable c d m
askable c d m is fits = record { shape = fits.shape; inputs = fits.inputs; latches = is.latches; outputs = fits.outputs }

-- what is made of what was read is written, in the spelling that is chosen
pub prints-miter : {before after : Input} (FileGiven : List ℕ → List ℕ → Type 0) (old new : Output) (task : Asking) (mapped : Mapped) (made : Made) (spelling : Spelling) (result : Result Outcome Failure)
    → AreReadWithMap task.input task.retimed task.map before after mapped → IsMadeOf mapped made → spelling ≡ unwrap_or task.spelling mapped.map.spelling
    → IfOk result (EndsMaking FileGiven made spelling task.output old new) → IfOk result (PrintsMiter FileGiven task before after old new)
prints-miter {before} {after} FileGiven old new task mapped made spelling result read is chosen printed =
    let P : Spelling → Type 0 = λ s. IfOk result (EndsMaking FileGiven made s task.output old new) in
    IfOk-weaker result _ _ (λ ended ends. record { mapped = mapped; read = read; made = made; is = is; printed = ends }) (subst P chosen printed)
