use Rattle.std.proofs.Common.{◌<◌, ◌∙◌, true, false, length, arith, sym}
use Rattle.rebuild.proofs.NumberLaws.{count-next}
use Rattle.rebuild.proofs.ranks.rank_from.Goals.{else-marks-k, then-marks-k}
use Rattle.rebuild.proofs.ranks.rank_from.Goals as goal

pub loop-k-preserved : goal.loop-k-preserved
loop-k-preserved c =
    let k = c.loop-k.k in
    let within : k < length c.args.marks.now = omega (arith, c.loop-k-test.true, c.requires.within) in
    elim c.if-marks-k.branch [
      | then-marks-k w ↦ record {
        few = omega (arith, c.loop-k.invariant.few, w.next-is);
        counted = λ first p all start.
            omega (arith, w.next-is, count-next p first k true (sym (all.each k within) ∙ w.if-marks-k.true), c.loop-k.invariant.counted first p all start);
      }
      | else-marks-k w ↦ record {
        few = omega (arith, c.loop-k.invariant.few, w.next-is);
        counted = λ first p all start.
            omega (arith, w.next-is, count-next p first k false (sym (all.each k within) ∙ w.if-marks-k.false), c.loop-k.invariant.counted first p all start);
      }
    ]
