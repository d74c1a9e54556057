use Rattle.std.proofs.Common.{◌∙◌}
use Rattle.std.proofs.lemmas.Result.{IfOk-weaker}
use Rattle.path_levels.proofs.MarkedLaws.{bounded-marked}
use Rattle.path_levels.proofs.bounding.bounded.Goals as goal

pub returns : goal.returns
returns c =
    IfOk-weaker c.with_barred.result _ _
    (λ left is. is ∙ bounded-marked c.args.bound c.args.keep.now c.args.circuit.now c.aig.result.now c.in_ok-barred.barred.items c.as_slice.result.now c.aig.ensures.value c.in_ok-barred.ensures c.as_slice.ensures.value)
    c.with_barred.ensures
