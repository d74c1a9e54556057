use Rattle.std.proofs.lemmas.Result.{IfOk-weaker}
use Rattle.moving_commands.proofs.answering.answer_for.Goals as goal

pub returns-in-Ok : goal.returns-in-Ok
returns-in-Ok g c =
    IfOk-weaker c.answer_of.result _ _ (λ answer is. record { spelt = c.in-Ok.spelt; read = record { stdin = c.in-Ok.ensures.stdin; file = c.in-Ok.ensures.file }; is = is }) c.answer_of.ensures
