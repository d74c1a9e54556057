use Rattle.std.proofs.Common.{◌≡◌, ◌<◌, length, slice_index, arith}
use Rattle.frame_net.specs.FlowNet.{node_count}
use Rattle.pulse_parts.specs.Parts.{values_of}
use Rattle.pulse_parts.proofs.whole.deliver_listed.Goals as goal
use Rattle.pulse_parts.proofs.DeliveredPartLaws.{fits_after, listed_node, part_clamped, part_next_at, part_turning, part_visited_all, part_visited_none, part_visit_more, step_clamped, step_safe}

pub loop-i-init : goal.loop-i-init
loop-i-init c = part_visited_none c.args.net.now c.args.labels.now (values_of c.args.pushes.now) c.args.part.now c.requires.part c.requires.work

pub deliver_at-requires-clause-part : goal.deliver_at-requires-clause-part
deliver_at-requires-clause-part c = fits_after c.args.net.now c.args.part.now c.loop-i.part c.loop-i.invariant.same c.loop-i.invariant.visited.done.sizes c.requires.part

pub deliver_at-requires-clause-safe : goal.deliver_at-requires-clause-safe
deliver_at-requires-clause-safe c =
    let il : c.loop-i.i < length c.args.part.now.spare.nodes.items = omega arith in
    let ev : c.index-v.result.now ≡ slice_index c.args.part.now.spare.nodes.items c.loop-i.i =
    listed_node c.args.part.now c.loop-i.part c.loop-i.i c.index-v.result.now c.loop-i.invariant.same il c.index-v.ensures in
    step_safe c.args.net.now c.args.labels.now (values_of c.args.pushes.now) c.args.part.now.first c.args.part.now.end c.index-v.result.now c.args.part.now c.loop-i.part
    (omega (arith, ev, (c.requires.work.within c.loop-i.i il).0)) (omega (arith, ev, (c.requires.work.within c.loop-i.i il).1))
    (part_clamped c.args.net.now (values_of c.args.pushes.now) 0 (node_count c.args.net.now) c.args.part.now.first c.args.part.now.end c.args.part.now (omega arith) (omega (arith, c.requires.part.within)) c.requires.safe)
    (part_next_at c.args.net.now c.args.labels.now (values_of c.args.pushes.now) c.loop-i.i c.index-v.result.now c.args.part.now c.loop-i.part c.known.ensures.network c.requires.part c.requires.work il ev c.loop-i.invariant)

pub loop-i-preserved : goal.loop-i-preserved
loop-i-preserved c =
    let il : c.loop-i.i < length c.args.part.now.spare.nodes.items = omega arith in
    let ev : c.index-v.result.now ≡ slice_index c.args.part.now.spare.nodes.items c.loop-i.i =
    listed_node c.args.part.now c.loop-i.part c.loop-i.i c.index-v.result.now c.loop-i.invariant.same il c.index-v.ensures in
    part_visit_more c.args.net.now c.args.labels.now (values_of c.args.pushes.now) c.loop-i.i c.index-v.result.now c.args.part.now c.loop-i.part c.deliver_at.new.part c.known.ensures.network c.requires.part c.requires.work il ev
    c.loop-i.invariant c.deliver_at.ensures.same c.deliver_at.ensures.delivered

pub returns-clause-delivered : goal.returns-clause-delivered
returns-clause-delivered c =
    step_clamped c.args.net.now c.args.labels.now (values_of c.args.pushes.now) 0 (node_count c.args.net.now) c.args.part.now.first c.args.part.now.end c.args.part.now c.loop-i.part c.requires.part (omega arith) (omega (arith, c.requires.part.within))
    (part_visited_all c.args.net.now c.args.labels.now (values_of c.args.pushes.now) c.loop-i.i c.args.part.now c.loop-i.part c.known.ensures.network c.requires.part c.requires.work (omega arith) c.loop-i.invariant)

pub returns-clause-turning : goal.returns-clause-turning
returns-clause-turning c =
    part_turning c.args.net.now c.args.labels.now (values_of c.args.pushes.now) c.args.part.now c.loop-i.part c.known.ensures.network c.requires.part c.requires.work
    (part_visited_all c.args.net.now c.args.labels.now (values_of c.args.pushes.now) c.loop-i.i c.args.part.now c.loop-i.part c.known.ensures.network c.requires.part c.requires.work (omega arith) c.loop-i.invariant)
