use Rattle.std.proofs.Common.{ℕ, List, ◌<◌, ◌∙◌, ap, arith, length, map}
use Rattle.std.proofs.lemmas.Result.{IfOk-weaker}
use Rattle.aig_graph.specs.Graph.{variable, variables_end}
use Rattle.aig_graph.specs.Value.{signed}
use Rattle.lane_sim.specs.Blocks.{in_lane}
use Rattle.lane_sim.specs.Lanes.{held}
use Rattle.lane_sim.specs.Traces.{value_in}
use Rattle.lane_sim.proofs.TableLaws.{held-signed, map-same}
use Rattle.lane_sim.proofs.steps.Values.read.Goals as goal

pub returns : goal.returns
returns c =
    let table : List (List ℕ) = c.args.self.now.table.items in
    let literals : List ℕ = c.args.literals.now in
    IfOk-weaker c.read_literals.result _ _ (λ row each. λ g sequences k t h at.
    each k h
    ∙ ap (λ (held_in : List (List ℕ)). map (λ lit. signed lit (held held_in (variable lit) k)) literals) c.as_slice.ensures.value
    ∙ map-same (λ lit. variable lit < length table) (λ lit. signed lit (held table (variable lit) k)) (value_in g (in_lane sequences k) t) literals c.requires
    (λ lit below. held-signed g at.graph (in_lane sequences k) table k t (variables_end g) lit (at.each k h) (omega (arith, below, at.room.long)))) c.read_literals.ensures
