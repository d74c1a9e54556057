use Rattle.std.proofs.Common.{arith, sym, ◌∙◌, ◌+◌, length}
use Rattle.aig_graph.specs.Counting.{count_below}
use Rattle.aig_graph.proofs.MarkingLaws.{count-start, count-entry}
use Rattle.aig_graph.proofs.TableLaws.{table-none, table-end, entry}
use Rattle.aig_graph.proofs.numbering.number_marks.Goals as goal

pub loop-mark-init : goal.loop-mark-init
loop-mark-init c = record {
  few = omega arith;
  counted = λ first p all. omega (arith, count-start first c.args.marks.now p all);
  filled = λ first p all. c.in_ok-numbers.ensures.items ∙ sym (table-none first (λ v. c.args.start + count_below p v));
}

pub overflow_add-number : goal.overflow_add-number
overflow_add-number c = omega (arith, c.loop-mark.invariant.few, c.one_if-number.ensures.small)

pub loop-mark-preserved : goal.loop-mark-preserved
loop-mark-preserved c = record {
  few = omega (arith, c.one_if-number.ensures.small);
  counted = λ first p all. omega (arith, count-entry first c.args.marks.now p c.loop-mark.mark-index all c.loop-mark-test.true, c.one_if-number.ensures.value, c.loop-mark.invariant.counted first p all);
  filled = λ first p all.
      entry first c.loop-mark.mark-index (λ v. c.args.start + count_below p v) c.loop-mark.numbers.items c.push.new.self.items c.loop-mark.number
      (c.loop-mark.invariant.filled first p all) c.in_ok-push.ensures.items (c.loop-mark.invariant.counted first p all);
}

pub returns : goal.returns
returns c = λ first p all. table-end first c.loop-mark.mark-index (length c.args.marks.now) (λ v. c.args.start + count_below p v) c.loop-mark.numbers.items (omega arith) c.loop-mark-test.false (c.loop-mark.invariant.filled first p all)
