-- The files of a batch, printed as an object.
use Rattle.std.proofs.Common.{◌≡◌, ◌⊎◌, true, List, fold, inl, inr, Result, Ok, Err, sym, subst}
use Rattle.std.specs.Prelude.{IfOk, IfErr}
use Rattle.counted_io.specs.Output.{Output}
use Rattle.reports.specs.declared.batch.JobReport.{JobReport}
use Rattle.json_reports.specs.Batches.{batch_data}
use Rattle.circuit_files.specs.Codes.{status_of}
use Rattle.circuit_files.specs.Outcomes.{outcome_of}
use Rattle.circuit_files.specs.declared.outcome.Outcome.{Outcome}
use Rattle.circuit_files.specs.declared.outcome.Outcome.TheVariants.{Device, Done, Memory}
use Rattle.circuit_files.specs.declared.outcome.Failure.{Failure}
use Rattle.command_endings.specs.Objects.{EndsPrintingObject}
use Rattle.fretime.specs.Batches.{Printed, after}

-- all of them, with the end that they have
pub object_of_files : (files : List JobReport) (ended : Outcome) (old new : Output) (result : Result Outcome Failure)
    → ended ≡ fold after Done files → EndsPrintingObject ended (batch_data files (status_of ended)) old new result
    → IfOk result (λ e. Printed true files e old new)
object_of_files files ended old new (Ok e) is p = subst (λ (x : Outcome). Printed true files x old new) (sym p.0) (record { prints = p.1; ends = is })
object_of_files files ended old new (Err failure) is p = tt

-- standard output failed, or nothing was printed
pub object_fails : (files : List JobReport) (ended : Outcome) (old new : Output) (result : Result Outcome Failure)
    → EndsPrintingObject ended (batch_data files (status_of ended)) old new result
    → IfErr result (λ failure. (outcome_of failure ≡ Device) ⊎ ((outcome_of failure ≡ Memory) × (new ≡ old)))
object_fails files ended old new (Ok e) p = tt
object_fails files ended old new (Err failure) (inl memory) = inr memory
object_fails files ended old new (Err failure) (inr device) = inl device.0
