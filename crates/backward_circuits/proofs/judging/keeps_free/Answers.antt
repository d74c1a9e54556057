use Rattle.std.proofs.lemmas.Result.{IfOk-weaker}
use Rattle.backward_circuits.proofs.judging.keeps_free.Goals as goal

pub returns-then-have_same_free : goal.returns-then-have_same_free
returns-then-have_same_free c = IfOk-weaker c.free_stay.result _ _ (λ stay both yes. (c.have_same_free.ensures c.if-have_same_free.true, both.0 yes)) c.free_stay.ensures
