use Rattle.std.proofs.Common.{ℕ, ◌≡◌, ◌<◌, map, take}
use Rattle.aig_graph.specs.Graph.{variable}
use Rattle.aig_graph.specs.Value.{signed}
use Rattle.lane_sim.specs.Lanes.{held}
use Rattle.lane_sim.specs.Blocks.{row_in}
use Rattle.lane_sim.proofs.table.read_literals.Given as goal

abbrev pub invariant-loop-lit : goal.invariant-loop-lit
invariant-loop-lit l = (k : ℕ) → k < 256
    → row_in k l.row.items ≡ map (λ lit. signed lit (held l.table (variable lit) k)) (take l.lit-index l.literals)
