use Rattle.std.proofs.Common.{ℕ, arith, subst, sym}
use Rattle.frame_net.specs.FlowNet.{node_count}
use Rattle.pulse_parts.specs.declared.parts.FlowPart.{FlowPart}
use Rattle.pulse_parts.specs.Parts.{FlowPartFits, values_of, part_cells}
use Rattle.pulse_parts.specs.Delivering.{RangeSafe, PartDelivered}
use Rattle.pulse_parts.proofs.phases.deliver_each.Goals as goal
use Rattle.pulse_parts.proofs.PartsLeftLaws.{part_fits}
use Rattle.pulse_parts.proofs.EachLaws.{each_more, rest_same}

pub deliver_part-requires-clause-part : goal.deliver_part-requires-clause-part
deliver_part-requires-clause-part c =
    subst (λ (q : FlowPart). FlowPartFits c.args.net.now q) (sym (c.loop-i.invariant.above c.loop-i.i c.index-parts-i.result (omega arith)))
    (part_fits (FlowPartFits c.args.net.now) (λ q. q.first) (λ q. q.end) (node_count c.args.net.now) 0 c.args.parts.now c.requires.parts c.loop-i.i c.index-parts-i.result (omega arith))

pub deliver_part-requires-clause-safe : goal.deliver_part-requires-clause-safe
deliver_part-requires-clause-safe c =
    subst (λ (q : FlowPart). RangeSafe c.args.net.now (values_of c.args.pushes.now) q.base q.first c.args.first c.args.end (part_cells q)) (sym (c.loop-i.invariant.above c.loop-i.i c.index-parts-i.result (omega arith)))
    (c.requires.safe c.loop-i.i c.index-parts-i.result (omega arith))

pub loop-i-preserved : goal.loop-i-preserved
loop-i-preserved c = record {
  below = each_more (λ (j : ℕ) (a b : FlowPart). PartDelivered c.args.net.now c.args.labels.now (values_of c.args.pushes.now) c.args.first c.args.end a b)
      c.args.parts.now c.loop-i.parts c.loop-i.i c.index-parts-i.result c.deliver_part.new.part (omega arith) c.deliver_part.ensures
      c.loop-i.invariant.below c.loop-i.invariant.above;
  above = rest_same c.args.parts.now c.loop-i.parts c.loop-i.i c.deliver_part.new.part c.loop-i.invariant.above;
}
