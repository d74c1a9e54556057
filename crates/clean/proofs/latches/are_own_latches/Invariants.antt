use Rattle.std.proofs.Common.{ℕ, ◌≡◌, ◌+◌, ◌*◌, ◌<◌, Some, slice_get}
use Rattle.aig_graph.specs.declared.graph.Latch.{Latch}
use Rattle.aig_graph.specs.Graph.{first_latch}
use Rattle.cleaned_circuits.specs.Latches.{latch_substitute}
use Rattle.clean.specs.Firsts.{AreFirsts}
use Rattle.clean.proofs.latches.are_own_latches.Given as goal

abbrev pub invariant-loop-place : goal.invariant-loop-place
invariant-loop-place l = record {
  firsts : AreFirsts l.aig l.held.positions.now l.place l.firsts;
  own : (j : ℕ) (latch : Latch) → j < l.place → slice_get l.aig.latches j ≡ Some latch → latch_substitute l.aig l.held.positions.now j (Some latch) ≡ 2 * (first_latch l.aig + j);
}
