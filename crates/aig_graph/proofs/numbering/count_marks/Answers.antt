use Rattle.std.proofs.Common.{arith, sym, length}
use Rattle.aig_graph.proofs.MarkingLaws.{count-start, count-entry, count-end}
use Rattle.aig_graph.proofs.numbering.count_marks.Goals as goal

pub loop-mark-init : goal.loop-mark-init
loop-mark-init c = record { few = omega arith; counted = λ first p all. sym (count-start first c.args.marks.now p all) }

pub overflow_add-count : goal.overflow_add-count
overflow_add-count c = omega arith

pub loop-mark-preserved : goal.loop-mark-preserved
loop-mark-preserved c = record {
  few = omega (arith, c.one_if-count.ensures.small);
  counted = λ first p all. omega (arith, count-entry first c.args.marks.now p c.loop-mark.mark-index all c.loop-mark-test.true, c.one_if-count.ensures.value, c.loop-mark.invariant.counted first p all);
}

pub returns : goal.returns
returns c = λ first p all. count-end first c.loop-mark.mark-index (length c.args.marks.now) p c.loop-mark.count (omega arith) c.loop-mark-test.false (c.loop-mark.invariant.counted first p all)
