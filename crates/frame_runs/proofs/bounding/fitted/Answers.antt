use Rattle.std.proofs.lemmas.Result.{IfOk-weaker}
use Rattle.frame_runs.proofs.bounding.fitted.Goals as goal

pub returns-in-Ok : goal.returns-in-Ok
returns-in-Ok c =
    IfOk-weaker c.judged_after.result _ _ (λ judged all s over. all c.args.circuit.now c.args.keep.now s over c.in-Ok.ensures) c.judged_after.ensures
