use Rattle.std.proofs.Common.{inl, inr, refl}
use Rattle.fretime.proofs.batch.finish_job.Goals as goal

pub returns-in-Ok-print_report-clause-ok : goal.returns-in-Ok-print_report-clause-ok
returns-in-Ok-print_report-clause-ok g c = (c.report_of-report.ensures, c.in-Ok-print_report.ensures)

pub returns-in-Ok-print_report-clause-written : goal.returns-in-Ok-print_report-clause-written
returns-in-Ok-print_report-clause-written g c = c.in-Ok.ensures.written

pub returns-in-Err-print_report-clause-named : goal.returns-in-Err-print_report-clause-named
returns-in-Err-print_report-clause-named g c = inr c.in-Err-print_report.ensures

pub returns-in-Err-print_report-clause-quiet : goal.returns-in-Err-print_report-clause-quiet
returns-in-Err-print_report-clause-quiet g c = inr c.in-Err-print_report.ensures

pub returns-in-Err-clause-named : goal.returns-in-Err-clause-named
returns-in-Err-clause-named g c = inl c.in-Err.ensures.err

pub returns-in-Err-clause-quiet : goal.returns-in-Err-clause-quiet
returns-in-Err-clause-quiet g c = inl refl
