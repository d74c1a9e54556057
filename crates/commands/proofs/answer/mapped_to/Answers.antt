use Rattle.std.proofs.lemmas.Result.{IfOk-weaker}
use Rattle.commands.proofs.answer.mapped_to.Goals as goal

pub returns-clause-held : goal.returns-clause-held
returns-clause-held g c = IfOk-weaker c.retime_spelt_mapped.result _ _ (λ made seen. seen.rounds) c.retime_spelt_mapped.ensures.seen
