use Rattle.std.proofs.Common.{arith}
use Rattle.pulse_parts.proofs.joined.walked_over.Goals as goal
use Rattle.pulse_parts.proofs.JoinedLaws.{walked_next, walked_end}

pub loop-part-preserved : goal.loop-part-preserved
loop-part-preserved c = record {
  small = omega arith;
  sum = walked_next c.args.parts.now c.loop-part.part-index c.loop-part.walked c.saturating_add-walked.result c.part-item.result (omega arith) c.part-item.is (omega arith) c.loop-part.invariant.sum;
}

pub returns : goal.returns
returns c = walked_end c.args.parts.now c.loop-part.part-index c.loop-part.walked (omega arith) c.loop-part.invariant.small c.loop-part.invariant.sum
