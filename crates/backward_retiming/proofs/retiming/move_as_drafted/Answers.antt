use Rattle.std.proofs.lemmas.Result.{IfOk-weaker}
use Rattle.backward_retiming.proofs.retiming.move_as_drafted.Goals as goal

pub returns-in-Ok-None : goal.returns-in-Ok-None
returns-in-Ok-None c = IfOk-weaker c.unmoved.result _ _ (λ moved all. all c.args.keep.now c.args.bound) c.unmoved.ensures
