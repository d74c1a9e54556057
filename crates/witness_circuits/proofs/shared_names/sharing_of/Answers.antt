use Rattle.std.proofs.lemmas.Result.{IfOk-weaker}
use Rattle.witness_circuits.proofs.FitLaws.{shared-fits}
use Rattle.witness_circuits.proofs.shared_names.sharing_of.Goals as goal

pub returns-clause-fits : goal.returns-clause-fits
returns-clause-fits c = IfOk-weaker c.shared.result _ _ (λ k is. shared-fits c.args.model.now c.args.witness.now k is) c.shared.ensures.shared
