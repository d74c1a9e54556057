use Rattle.std.proofs.lemmas.Result.{IfOk-weaker}
use Rattle.class_retiming.proofs.retiming.move_on.Goals as goal

pub returns-in-None : goal.returns-in-None
returns-in-None g c = IfOk-weaker c.unmoved.result _ _ (λ moved all. all c.args.keep.now c.args.options.now.levels) c.unmoved.ensures
