use Rattle.std.proofs.Common.{ℕ, ◌≡◌, ◌+◌, ◌*◌, ◌<◌, Some, length, get_or, slice_get}
use Rattle.aig_graph.specs.declared.graph.Latch.{Latch}
use Rattle.aig_graph.specs.Graph.{first_latch}
use Rattle.aig_graph.specs.Value.{opening_literal}
use Rattle.map_checks.proofs.starting.reset_leaves.Given as goal

abbrev pub invariant-loop-place : goal.invariant-loop-place
invariant-loop-place l = record {
  long : length l.literals.items ≡ l.place;
  each : (j : ℕ) (latch : Latch) → j < l.place → slice_get l.aig.latches j ≡ Some latch → get_or l.literals.items j 0 ≡ opening_literal latch.reset (2 * (first_latch l.aig + j));
}
