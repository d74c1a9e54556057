use Rattle.std.proofs.lemmas.Result.{IfOk-weaker}
use Rattle.backward_circuits.proofs.TurnedLaws.{outputs-of, turned-answer}
use Rattle.backward_circuits.proofs.judging.is_mapped.Goals as goal

pub keeps_free-requires : goal.keeps_free-requires
keeps_free-requires c = outputs-of c.args.circuit.now c.args.after.now c.args.map.now c.in-Ok-Retiming.field-0 c.in-Ok-Retiming.kept c.in-Ok-Retiming.field-0-is c.in-Ok-Retiming.ensures.answer

pub returns-in-Ok-Retiming : goal.returns-in-Ok-Retiming
returns-in-Ok-Retiming c =
    IfOk-weaker c.keeps_free.result _ _ (λ mapped same yes.
    turned-answer c.args.circuit.now c.args.after.now c.args.map.now c.in-Ok-Retiming.field-0 c.in-Ok-Retiming.kept c.in-Ok-Retiming.field-0-is c.in-Ok-Retiming.ensures.answer (same yes).0 (same yes).1)
    c.keeps_free.ensures
