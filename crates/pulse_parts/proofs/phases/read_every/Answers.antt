use Rattle.std.proofs.Common.{ℕ, arith, subst, sym}
use Rattle.frame_net.specs.FlowNet.{node_count}
use Rattle.pulse_parts.specs.declared.parts.PushPart.{PushPart}
use Rattle.pulse_parts.specs.Parts.{PushPartFits, cells_of}
use Rattle.pulse_parts.specs.Reading.{WholeRead}
use Rattle.pulse_parts.proofs.phases.read_every.Goals as goal
use Rattle.pulse_parts.proofs.PartsLeftLaws.{part_fits}
use Rattle.pulse_parts.proofs.EachLaws.{each_more, rest_same}

pub read_whole-requires-clause-part : goal.read_whole-requires-clause-part
read_whole-requires-clause-part c =
    subst (λ (q : PushPart). PushPartFits c.args.net.now q) (sym (c.loop-i.invariant.above c.loop-i.i c.index-parts-i.result (omega arith)))
    (part_fits (PushPartFits c.args.net.now) (λ q. q.first) (λ q. q.end) (node_count c.args.net.now) 0 c.args.parts.now c.requires.parts c.loop-i.i c.index-parts-i.result (omega arith))

pub loop-i-preserved : goal.loop-i-preserved
loop-i-preserved c = record {
  below = each_more (λ (j : ℕ) (a b : PushPart). WholeRead c.args.net.now c.args.labels.now (cells_of c.args.flow.now) a b)
      c.args.parts.now c.loop-i.parts c.loop-i.i c.index-parts-i.result c.read_whole.new.part (omega arith) c.read_whole.ensures
      c.loop-i.invariant.below c.loop-i.invariant.above;
  above = rest_same c.args.parts.now c.loop-i.parts c.loop-i.i c.read_whole.new.part c.loop-i.invariant.above;
}
