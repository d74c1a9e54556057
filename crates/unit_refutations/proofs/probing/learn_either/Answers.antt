use Rattle.std.proofs.lemmas.Result.{IfOk-weaker}
use Rattle.unit_refutations.proofs.probing.learn_either.Goals as goal

pub returns : goal.returns
returns c = IfOk-weaker c.learn-2.result _ _ (λ learnt follows values respects all.
    follows values respects (c.in_ok-learn.ensures values respects all)) c.learn-2.ensures
