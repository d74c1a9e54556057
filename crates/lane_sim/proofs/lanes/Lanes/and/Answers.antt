use Rattle.std.proofs.Common.{◌/◌, ◌∙◌, ◌&&◌, ap₂, arith}
use Rattle.lane_sim.specs.Words.{signed_if}
use Rattle.lane_sim.specs.Lanes.{lane}
use Rattle.lane_sim.proofs.LaneLaws.{lane-and, AreLanes-and}
use Rattle.lane_sim.proofs.lanes.Lanes.and.Goals as goal

pub invariant_of-result : goal.invariant_of-result
invariant_of-result c = AreLanes-and c.args.negated c.args.other_negated c.and_lanes.new.out c.self.inside.words c.other.inside.words c.and_lanes.auto.out c.self.invariant c.and_lanes.ensures

pub returns : goal.returns
returns c = λ k h.
    let long = c.and_lanes.auto.out in
    lane-and c.args.negated c.args.other_negated c.and_lanes.new.out c.self.inside.words c.other.inside.words k h
    (c.and_lanes.ensures (k / 64) (omega arith)) (c.self.invariant.fit (k / 64)) (c.other.invariant.fit (k / 64))
    ∙ ap₂ (λ a b. signed_if c.args.negated (lane a k) && signed_if c.args.other_negated (lane b k)) c.self.view_is c.other.view_is
