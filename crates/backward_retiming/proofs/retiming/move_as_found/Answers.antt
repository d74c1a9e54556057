use Rattle.std.proofs.lemmas.Result.{IfOk-weaker}
use Rattle.backward_retiming.proofs.retiming.move_as_found.Goals as goal

pub returns-in-Unmoved : goal.returns-in-Unmoved
returns-in-Unmoved c = IfOk-weaker c.unmoved.result _ _ (λ moved all. all c.args.keep.now c.args.bound) c.unmoved.ensures
