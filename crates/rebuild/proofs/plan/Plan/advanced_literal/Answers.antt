use Rattle.std.proofs.Common.{◌∙◌, ap, arith}
use Rattle.aig_graph.specs.Value.{signed_as}
use Rattle.rebuild.proofs.PlanLaws.{length-by_variable, whole-by_variable}
use Rattle.rebuild.specs.Moved.{advanced}
use Rattle.rebuild.specs.Planned.{planned}
use Rattle.rebuild.proofs.plan.Plan.advanced_literal.Goals as goal

pub entry-requires-clause-from : goal.entry-requires-clause-from
entry-requires-clause-from c =
    let p = c.args.self.now in
    omega (arith, p.marks.first_is, c.var.ensures.variable, c.requires.from)

pub entry-requires-clause-below : goal.entry-requires-clause-below
entry-requires-clause-below c =
    let p = c.args.self.now in
    omega (arith, length-by_variable p.marks.circuit.now.aig (advanced (planned p)) c.as_slice.result.now (c.as_slice.ensures.value ∙ p.later_are), p.marks.first_is, c.var.ensures.variable, c.requires.below)

pub returns : goal.returns
returns c =
    let p = c.args.self.now in
    c.signed_as.ensures
    ∙ ap (signed_as c.args.lit) (c.entry.ensures (advanced (planned p)) (whole-by_variable p.marks.circuit.now.aig (advanced (planned p)) p.later.items c.as_slice.result.now p.marks.first c.as_slice.ensures.value p.later_are p.marks.first_is)
    ∙ ap (advanced (planned p)) c.var.ensures.variable)
