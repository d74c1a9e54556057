use Rattle.std.proofs.Common.{arith}
use Rattle.pulse_parts.proofs.places.push_row.Goals as goal
use Rattle.pulse_parts.proofs.PushPartLaws.{ahead_more, here_at}
use Rattle.pulse_parts.proofs.PushRowLaws.{row_len_here, row_here}

pub loop-part-preserved : goal.loop-part-preserved
loop-part-preserved c = ahead_more c.args.net.now c.args.v c.args.parts.now c.loop-part.part-index c.part-item.result c.known.ensures.network (omega arith) c.part-item.is c.if-v-part.false c.loop-part.invariant

pub returns-then-v-part-clause-len : goal.returns-then-v-part-clause-len
returns-then-v-part-clause-len c =
    row_len_here c.args.net.now c.args.v c.args.parts.now c.part-item.result c.start-at.result c.start-next.result c.deref.result.now c.known.ensures.network c.requires.v c.start-at.ensures c.start-next.ensures c.deref.ensures.value
    (here_at c.args.net.now c.args.v c.args.parts.now c.loop-part.part-index c.part-item.result c.known.ensures.network c.requires.v (omega arith) c.part-item.is c.if-v-part.true c.loop-part.invariant)

pub returns-then-v-part-clause-value : goal.returns-then-v-part-clause-value
returns-then-v-part-clause-value c =
    row_here c.args.net.now c.args.v c.args.parts.now c.part-item.result c.start-at.result c.start-next.result c.deref.result.now c.known.ensures.network c.requires.v c.start-at.ensures c.start-next.ensures c.deref.ensures.value
    (here_at c.args.net.now c.args.v c.args.parts.now c.loop-part.part-index c.part-item.result c.known.ensures.network c.requires.v (omega arith) c.part-item.is c.if-v-part.true c.loop-part.invariant)
