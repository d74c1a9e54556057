use Rattle.std.proofs.lemmas.Result.{IfOk-from_err}
use Rattle.batch_pool.proofs.OutcomeLaws.{outcomes-from}
use Rattle.batch_pool.proofs.batch.run_batch.Goals as goal

pub returns : goal.returns
returns g c =
    let outcomes = c.in_ok-outcomes.ensures in
    outcomes-from c.args.options.now c.args.jobs.now c.in_ok-outcomes.outcomes.items outcomes.len (λ k job outcome within. (outcomes.each k outcome within) job)

pub returns-in_err-outcomes : goal.returns-in_err-outcomes
returns-in_err-outcomes g c = IfOk-from_err c.from_residual.result _ c.from_residual.ensures.0
