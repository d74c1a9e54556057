use Rattle.std.proofs.Common.{ℕ, List, ◌∙◌, ap, arith}
use Rattle.aig_graph.specs.Graph.{variable, variables_end}
use Rattle.aig_graph.specs.Value.{signed}
use Rattle.lane_sim.specs.Blocks.{in_lane}
use Rattle.lane_sim.specs.Lanes.{held}
use Rattle.lane_sim.proofs.TableLaws.{held-signed}
use Rattle.lane_sim.proofs.steps.Values.get.Goals as goal

pub returns : goal.returns
returns c = λ g sequences t at.
    let lit = c.args.lit in
    let k = c.args.lane in
    c.get.ensures ∙ c.literal_lanes.ensures k c.requires.lane
    ∙ ap (λ (table : List (List ℕ)). signed lit (held table (variable lit) k)) c.as_slice.ensures.value
    ∙ held-signed g at.graph (in_lane sequences k) c.args.self.now.table.items k t (variables_end g) lit (at.each k c.requires.lane) (omega (arith, c.requires.literal, at.room.long))
