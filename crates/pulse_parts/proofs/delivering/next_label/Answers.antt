use Rattle.pulse_parts.proofs.delivering.next_label.Goals as goal
use Rattle.std.proofs.Common.{arith, slice_index}
use Rattle.frame_net.specs.FlowNet.{node_count}
use Rattle.pulse_parts.proofs.DeliveredNodeLaws.{lift_same, choice_first}

pub returns-then-outflow-excess : goal.returns-then-outflow-excess
returns-then-outflow-excess c =
    choice_first c.args.v c.args.excess (slice_index c.args.labels.now c.args.v) (node_count c.args.net.now) c.args.outflow _ c.relabel.result c.if-v-gt1.true c.if-excess-gt0.true
    (omega (arith, c.if-label-nodes.true, c.nodes-nodes.ensures)) c.if-outflow-excess.true
    (lift_same c.args.net.now c.args.v c.nodes-nodes.result c.relabel.result c.heads.result.now c.args.row.now c.args.labels.now c.nodes-nodes.ensures c.heads.ensures.len c.heads.ensures.value c.relabel.ensures)
