use Rattle.std.proofs.Common.{◌≡◌, All, length}
use Rattle.lane_sim.specs.Steps.{IsStateFor}
use Rattle.reports.proofs.waves.room.states.Given as goal

abbrev pub invariant-loop-block : goal.invariant-loop-block
invariant-loop-block l = record {
  many : length l.states.items ≡ l._block;
  each : All (IsStateFor l.aig) l.states.items;
}
