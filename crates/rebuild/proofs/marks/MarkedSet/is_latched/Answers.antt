use Rattle.std.proofs.Common.{◌∙◌, arith}
use Rattle.rebuild.proofs.PlanLaws.{length-by_variable, whole-by_variable}
use Rattle.rebuild.specs.Moved.{is_latched}
use Rattle.rebuild.specs.Planned.{marked}
use Rattle.rebuild.proofs.marks.MarkedSet.is_latched.Goals as goal

pub entry-requires-clause-from : goal.entry-requires-clause-from
entry-requires-clause-from c =
    let k = c.args.self.now in
    omega (arith, k.first_is, c.requires.from)

pub entry-requires-clause-below : goal.entry-requires-clause-below
entry-requires-clause-below c =
    let k = c.args.self.now in
    omega (arith, length-by_variable k.circuit.now.aig (is_latched (marked k)) c.as_slice.result.now (c.as_slice.ensures.value ∙ k.latched_are), k.first_is, c.requires.below)

pub returns : goal.returns
returns c =
    let k = c.args.self.now in
    c.entry.ensures (is_latched (marked k)) (whole-by_variable k.circuit.now.aig (is_latched (marked k)) k.latched.items c.as_slice.result.now k.first c.as_slice.ensures.value k.latched_are k.first_is)
