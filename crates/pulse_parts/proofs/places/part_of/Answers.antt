use Rattle.std.proofs.Common.{arith}
use Rattle.pulse_parts.proofs.places.part_of.Goals as goal
use Rattle.pulse_parts.proofs.FlowPartLaws.{flow_all, flow_more, flow_here}

pub loop-part-init : goal.loop-part-init
loop-part-init c = flow_all c.args.net.now c.args.v c.args.parts.now c.requires.parts

pub loop-part-preserved : goal.loop-part-preserved
loop-part-preserved c = flow_more c.args.net.now c.args.v c.args.parts.now c.loop-part.part-index c.part-item.result (omega arith) c.part-item.is c.if-v-part.false c.loop-part.invariant

pub returns-then-v-part : goal.returns-then-v-part
returns-then-v-part c =
    flow_here c.args.net.now c.args.v c.args.parts.now c.loop-part.part-index c.part-item.result c.known.ensures.network c.requires.parts (omega arith) c.part-item.is c.if-v-part.true c.loop-part.invariant
