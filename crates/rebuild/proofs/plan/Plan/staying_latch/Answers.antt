use Rattle.std.proofs.Common.{◌∙◌, ap, arith, ℕ}
use Rattle.aig_graph.proofs.KindLaws.{LatchPlace, latch_place}
use Rattle.aig_graph.specs.declared.graph.Latch.{Latch}
use Rattle.rebuild.proofs.NumberLaws.{advanced-at_latch}
use Rattle.rebuild.proofs.PlanLaws.{length-by_variable, whole-by_variable}
use Rattle.rebuild.specs.Moved.{advanced}
use Rattle.rebuild.specs.Planned.{planned}
use Rattle.rebuild.proofs.plan.Plan.staying_latch.Goals as goal

pub entry-requires-clause-from : goal.entry-requires-clause-from
entry-requires-clause-from c =
    let k = c.args.self.now.marks in
    let place : LatchPlace k.circuit.now.aig c.args.var c.args.latch = latch_place k.circuit.now.aig c.args.var c.args.latch c.requires in
    omega (arith, k.first_is, place.from)

pub entry-requires-clause-below : goal.entry-requires-clause-below
entry-requires-clause-below c =
    let p = c.args.self.now in
    let k = p.marks in
    let place : LatchPlace k.circuit.now.aig c.args.var c.args.latch = latch_place k.circuit.now.aig c.args.var c.args.latch c.requires in
    omega (arith, k.first_is, place.below, length-by_variable k.circuit.now.aig (advanced (planned p)) c.as_slice.result.now (c.as_slice.ensures.value ∙ p.later_are))

pub returns : goal.returns
returns c =
    let p = c.args.self.now in
    let k = p.marks in
    let with_next : ℕ → Latch = λ n. record { next = n; reset = c.args.latch.reset } in
    ap with_next
    (c.entry.ensures (advanced (planned p)) (whole-by_variable k.circuit.now.aig (advanced (planned p)) p.later.items c.as_slice.result.now k.first c.as_slice.ensures.value p.later_are k.first_is)
    ∙ advanced-at_latch (planned p) k.passable c.args.var c.args.latch c.requires)
