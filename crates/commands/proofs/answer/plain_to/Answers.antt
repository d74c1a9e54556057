use Rattle.commands.proofs.PipeLaws.{stopped}
use Rattle.commands.proofs.answer.plain_to.Goals as goal

pub returns-in-Err-clause-prints : goal.returns-in-Err-clause-prints
returns-in-Err-clause-prints g c = stopped c.args.task.now c.args.options.now c.args.spelt _ _ c.in-Err.error c.failure_of.result c.failure_of.ensures c.in-Err.ensures.err
