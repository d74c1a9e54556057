use Rattle.std.proofs.Common.{ℕ, ◌≡◌, ◌<◌, length, map, slice_get}
use Rattle.std.specs.Option.{IsSomeAnd}
use Rattle.lane_sim.specs.Blocks.{in_lane, row_in}
use Rattle.lane_sim.specs.Steps.{AreFor, HoldsAt}
use Rattle.lane_sim.specs.Traces.{value_in}
use Rattle.lane_sim.proofs.block.simulate_block.Given as goal

abbrev pub invariant-loop-step : goal.invariant-loop-step
invariant-loop-step l = record {
  long : length l.rows.items ≡ l.step;
  values : AreFor l.aig l.values;
  state : HoldsAt l.aig l.sequences l.state l.step;
  each : (k t : ℕ) → k < 256 → t < l.step
      → IsSomeAnd (slice_get l.rows.items t) (λ row. row_in k row ≡ map (value_in l.aig (in_lane l.sequences k) t) l.literals);
}
