use Rattle.std.proofs.Common.{◌∙◌, ap}
use Rattle.lane_sim.specs.Lanes.{lane}
use Rattle.lane_sim.proofs.LaneLaws.{lane-get}
use Rattle.lane_sim.proofs.lanes.Lanes.get.Goals as goal

pub returns : goal.returns
returns c = lane-get c.self.inside.words c.args.place ∙ ap (λ words. lane words c.args.place) c.self.view_is
