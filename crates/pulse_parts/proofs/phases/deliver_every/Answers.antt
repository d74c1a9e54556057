use Rattle.std.proofs.Common.{ℕ, arith, subst, sym}
use Rattle.frame_net.specs.FlowNet.{node_count}
use Rattle.pulse_parts.specs.declared.parts.FlowPart.{FlowPart}
use Rattle.pulse_parts.specs.Listing.{ListsActive}
use Rattle.pulse_parts.specs.Parts.{FlowPartFits, values_of, part_cells}
use Rattle.pulse_parts.specs.Delivering.{RangeSafe}
use Rattle.pulse_parts.specs.Visiting.{WholeDelivered}
use Rattle.pulse_parts.proofs.phases.deliver_every.Goals as goal
use Rattle.pulse_parts.proofs.PartsLeftLaws.{part_fits}
use Rattle.pulse_parts.proofs.EachLaws.{each_more, rest_same}

pub deliver_whole-requires-clause-part : goal.deliver_whole-requires-clause-part
deliver_whole-requires-clause-part c =
    subst (λ (q : FlowPart). FlowPartFits c.args.net.now q) (sym (c.loop-i.invariant.above c.loop-i.i c.index-parts-i.result (omega arith)))
    (part_fits (FlowPartFits c.args.net.now) (λ q. q.first) (λ q. q.end) (node_count c.args.net.now) 0 c.args.parts.now c.requires.parts c.loop-i.i c.index-parts-i.result (omega arith))

pub deliver_whole-requires-clause-safe : goal.deliver_whole-requires-clause-safe
deliver_whole-requires-clause-safe c =
    subst (λ (q : FlowPart). RangeSafe c.args.net.now (values_of c.args.pushes.now) q.base q.first 0 (node_count c.args.net.now) (part_cells q)) (sym (c.loop-i.invariant.above c.loop-i.i c.index-parts-i.result (omega arith)))
    (c.requires.safe c.loop-i.i c.index-parts-i.result (omega arith))

pub deliver_whole-requires-clause-active : goal.deliver_whole-requires-clause-active
deliver_whole-requires-clause-active c on =
    subst (λ (q : FlowPart). ListsActive (node_count c.args.net.now) c.args.labels.now q) (sym (c.loop-i.invariant.above c.loop-i.i c.index-parts-i.result (omega arith)))
    (c.requires.lists on c.loop-i.i c.index-parts-i.result (omega arith))

pub loop-i-preserved : goal.loop-i-preserved
loop-i-preserved c = record {
  below = each_more (λ (j : ℕ) (a b : FlowPart). WholeDelivered c.args.net.now c.args.labels.now (values_of c.args.pushes.now) a b)
      c.args.parts.now c.loop-i.parts c.loop-i.i c.index-parts-i.result c.deliver_whole.new.part (omega arith) (record { is_delivered = c.deliver_whole.ensures.delivered; turning = c.deliver_whole.ensures.turning })
      c.loop-i.invariant.below c.loop-i.invariant.above;
  above = rest_same c.args.parts.now c.loop-i.parts c.loop-i.i c.deliver_whole.new.part c.loop-i.invariant.above;
}
