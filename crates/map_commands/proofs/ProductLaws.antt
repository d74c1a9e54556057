-- Both circuits side by side, of circuits and a map that fit together.
use Rattle.std.proofs.Common.{ℕ, ◌≡◌, IfOk, List, Result, subst, unwrap_or}
use Rattle.std.proofs.lemmas.Result.{IfOk-weaker}
use Rattle.file_words.specs.declared.spelling.Spelling.{Spelling}
use Rattle.counted_io.specs.Input.{Input}
use Rattle.counted_io.specs.Output.{Output}
use Rattle.counted_io.specs.declared.target.Target.{Target}
use Rattle.command_line.specs.declared.task.Asking.{Asking}
use Rattle.circuit_files.specs.declared.outcome.Outcome.{Outcome}
use Rattle.circuit_files.specs.declared.outcome.Failure.{Failure}
use Rattle.map_commands.specs.declared.given.Mapped.{Mapped}
use Rattle.map_commands.specs.declared.products.Shown.{Shown}
use Rattle.map_commands.specs.Products.{EndsShowing, AreMadeSideBySide, PrintsProduct}
use Rattle.map_commands.specs.Reading.{AreReadWithMap}

-- what is made of what was read is written, in the spelling that is chosen
pub prints-product : {before after : Input} (FileGiven : List ℕ → List ℕ → Type 0) (old new : Output) (certificate : Target) (task : Asking) (mapped : Mapped) (shown : Shown) (spelling : Spelling) (result : Result Outcome Failure)
    → AreReadWithMap task.input task.retimed task.map before after mapped → AreMadeSideBySide mapped shown → spelling ≡ unwrap_or task.spelling mapped.map.spelling
    → IfOk result (EndsShowing FileGiven shown spelling task.output certificate old new) → IfOk result (PrintsProduct FileGiven certificate task before after old new)
prints-product {before} {after} FileGiven old new certificate task mapped shown spelling result read is chosen printed =
    let P : Spelling → Type 0 = λ s. IfOk result (EndsShowing FileGiven shown s task.output certificate old new) in
    IfOk-weaker result _ _ (λ ended ends. record { mapped = mapped; read = read; shown = shown; is = is; printed = ends }) (subst P chosen printed)
