use Rattle.std.proofs.Common.{◌/◌, ◌%◌, ◌∙◌, ◌||◌, ◌&&◌, ◌==◌, ap, arith}
use Rattle.lane_sim.specs.Lanes.{lane}
use Rattle.lane_sim.proofs.LaneLaws.{lane-with, AreLanes-with}
use Rattle.lane_sim.proofs.lanes.Lanes.with.Goals as goal

pub invariant_of-result : goal.invariant_of-result
invariant_of-result c = rw c.from.ensures (AreLanes-with c.self.inside.words (c.args.place / 64) (c.args.place % 64) c.args.value (omega arith) c.self.invariant)

pub returns : goal.returns
returns c = λ k h. rw c.from.ensures (
    lane-with c.self.inside.words c.args.place k c.args.value c.self.invariant.four c.requires h
    ∙ ap (λ words. ((k == c.args.place) && c.args.value) || lane words k) c.self.view_is)
