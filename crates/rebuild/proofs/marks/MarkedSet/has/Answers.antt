use Rattle.std.proofs.Common.{◌∙◌, arith}
use Rattle.rebuild.proofs.PlanLaws.{length-by_variable, whole-by_variable}
use Rattle.aig_graph.specs.Marking.{has}
use Rattle.rebuild.proofs.marks.MarkedSet.has.Goals as goal

pub entry-requires-clause-from : goal.entry-requires-clause-from
entry-requires-clause-from c =
    let k = c.args.self.now in
    omega (arith, k.first_is, c.requires.from)

pub entry-requires-clause-below : goal.entry-requires-clause-below
entry-requires-clause-below c =
    let k = c.args.self.now in
    omega (arith, length-by_variable k.circuit.now.aig (has k.set.now) c.as_slice.result.now (c.as_slice.ensures.value ∙ k.members_are), k.first_is, c.requires.below)

pub returns : goal.returns
returns c =
    let k = c.args.self.now in
    c.entry.ensures (has k.set.now) (whole-by_variable k.circuit.now.aig (has k.set.now) k.members.items c.as_slice.result.now k.first c.as_slice.ensures.value k.members_are k.first_is)
