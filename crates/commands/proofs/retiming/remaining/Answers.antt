use Rattle.std.proofs.Common.{◌∙◌}
use Rattle.std.proofs.lemmas.Result.{IfOk-weaker}
use Rattle.commands.proofs.FrameLaws.{remaining_is}
use Rattle.commands.proofs.retiming.remaining.Goals as goal

pub returns : goal.returns
returns c =
    let answer = c.args.answer.now in
    IfOk-weaker c.of.result _ _ (λ left is. is ∙ remaining_is c.args.task.now answer.levels.bound answer.rounds answer.keep c.len.result c.len.ensures) c.of.ensures
