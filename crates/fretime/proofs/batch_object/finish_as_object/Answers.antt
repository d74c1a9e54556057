use Rattle.std.proofs.Common.{◌∙◌, List, IfOk, inl, inr, refl, subst, true}
use Rattle.reports.specs.declared.batch.JobReport.{JobReport}
use Rattle.fretime.specs.Batches.{Printed}
use Rattle.fretime.proofs.batch_object.finish_as_object.Goals as goal

pub returns-in-Ok-reports_of-clause-ok : goal.returns-in-Ok-reports_of-clause-ok
returns-in-Ok-reports_of-clause-ok g c =
    let out = g.O.CountedWrite.output in
    let P : List JobReport → Type 0 = λ files. IfOk c.print_files-printed.result (λ ended. Printed true files ended (out c.args.out.now) (out c.print_files-printed.new.out)) in
    subst P (c.as_slice.ensures.value ∙ c.in-Ok-reports_of.ensures) c.print_files-printed.ensures.ok

pub returns-in-Ok-reports_of-clause-err : goal.returns-in-Ok-reports_of-clause-err
returns-in-Ok-reports_of-clause-err g c = c.print_files-printed.ensures.err

pub returns-in-Err-reports_of-clause-err : goal.returns-in-Err-reports_of-clause-err
returns-in-Err-reports_of-clause-err g c = inr (refl, refl)

pub returns-in-Err-clause-err : goal.returns-in-Err-clause-err
returns-in-Err-clause-err g c = inl c.in-Err.ensures.err.is.ends
