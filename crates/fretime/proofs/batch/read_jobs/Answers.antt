use Rattle.std.proofs.lemmas.Result.{err_from_is_err_and}
use Rattle.fretime.proofs.AnswerLaws.{of_input}
use Rattle.fretime.proofs.batch.read_jobs.Goals as goal

pub returns-in_err-read_job-clause-named : goal.returns-in_err-read_job-clause-named
returns-in_err-read_job-clause-named g c =
    let p = err_from_is_err_and c.from_residual.result c.from_residual.ensures.1 in
    rw (p.1, p.2) (of_input c.args.entries.now c.loop-entry.entry-index _ c.in_err-read_job.field-0.0 c.loop-entry-test.true c.in_err-read_job.ensures.named)
