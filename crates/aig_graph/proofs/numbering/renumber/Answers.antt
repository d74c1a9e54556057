use Rattle.std.proofs.Common.{arith, sym, ◌∙◌, ◌<◌, length}
use Rattle.aig_graph.specs.Counting.{numbered}
use Rattle.aig_graph.proofs.MarkingLaws.{count-start, count-entry}
use Rattle.aig_graph.proofs.TableLaws.{table-none, table-end, entry, numbered-first, numbered-next, numbered-other}
use Rattle.aig_graph.proofs.numbering.renumber.Goals as goal
use Rattle.aig_graph.proofs.numbering.renumber.Goals.{then-ahead-k, else-ahead-k+then-others-k, else-ahead-k+else-others-k}

pub loop-k-init : goal.loop-k-init
loop-k-init c = record {
  few = omega arith;
  few_more = omega arith;
  counted = λ p all. omega (arith, count-start c.args.first c.args.ahead.now p all);
  counted_more = λ q all. omega (arith, count-start c.args.first c.args.others.now q all);
  filled = λ p q all more. c.in_ok-numbers.ensures.items ∙ sym (table-none c.args.first (numbered p q c.args.start c.args.next));
}

pub loop-k-preserved : goal.loop-k-preserved
loop-k-preserved c =
    let within : c.loop-k.k < length c.args.others.now = omega (arith, c.requires.same) in
    record {
      few = omega arith;
      few_more = omega arith;
      counted = λ p all. omega (arith, count-entry c.args.first c.args.ahead.now p c.loop-k.k all c.loop-k-test.true, c.loop-k.invariant.counted p all);
      counted_more = λ q all. omega (arith, count-entry c.args.first c.args.others.now q c.loop-k.k all within, c.loop-k.invariant.counted_more q all);
      filled = λ p q all more.
          entry c.args.first c.loop-k.k (numbered p q c.args.start c.args.next) c.loop-k.numbers.items c.push.new.self.items c.if-ahead-k.number
          (c.loop-k.invariant.filled p q all more) c.in_ok-push.ensures.items
          (elim c.if-ahead-k.branch [
            | then-ahead-k w ↦ w.number-is ∙ c.loop-k.invariant.counted p all ∙ sym (numbered-first p q c.args.start c.args.next _ (sym (all.each c.loop-k.k c.loop-k-test.true) ∙ w.if-ahead-k.true))
            | else-ahead-k+then-others-k w ↦ w.number-is ∙ c.loop-k.invariant.counted_more q more ∙ sym (numbered-next p q c.args.start c.args.next _ (sym (all.each c.loop-k.k c.loop-k-test.true) ∙ w.if-ahead-k.false) (sym (more.each c.loop-k.k within) ∙ w.if-others-k.true))
            | else-ahead-k+else-others-k w ↦ w.number-is ∙ sym (numbered-other p q c.args.start c.args.next _ (sym (all.each c.loop-k.k c.loop-k-test.true) ∙ w.if-ahead-k.false) (sym (more.each c.loop-k.k within) ∙ w.if-others-k.false))
          ]);
    }

pub returns : goal.returns
returns c = λ p q all more. table-end c.args.first c.loop-k.k (length c.args.ahead.now) (numbered p q c.args.start c.args.next) c.loop-k.numbers.items (omega arith) c.loop-k-test.false (c.loop-k.invariant.filled p q all more)
