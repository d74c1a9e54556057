use Rattle.std.proofs.Common.{ℕ, arith, length, subst, sym}
use Rattle.pulse_parts.specs.declared.parts.FlowPart.{FlowPart}
use Rattle.pulse_parts.proofs.PartsLeftLaws.{part_fits}
use Rattle.pulse_parts.specs.Labels.{HasLabels, HoldsLabels}
use Rattle.pulse_parts.proofs.labels.hold_labels.Goals as goal
use Rattle.pulse_parts.proofs.EachLaws.{each_more, rest_same}

pub hold_part-requires : goal.hold_part-requires
hold_part-requires c =
    subst (λ (q : FlowPart). HasLabels (length c.args.labels.now) q) (sym (c.loop-i.invariant.above c.loop-i.i c.index-parts-i.result (omega arith)))
    (part_fits (HasLabels (length c.args.labels.now)) (λ q. q.first) (λ q. q.end) (length c.args.labels.now) 0 c.args.parts.now c.requires c.loop-i.i c.index-parts-i.result (omega arith))

pub loop-i-preserved : goal.loop-i-preserved
loop-i-preserved c = record {
  below = each_more (λ (j : ℕ) (a b : FlowPart). HoldsLabels c.args.labels.now a b)
      c.args.parts.now c.loop-i.parts c.loop-i.i c.index-parts-i.result c.hold_part.new.part (omega arith) c.hold_part.ensures
      c.loop-i.invariant.below c.loop-i.invariant.above;
  above = rest_same c.args.parts.now c.loop-i.parts c.loop-i.i c.hold_part.new.part c.loop-i.invariant.above;
}
