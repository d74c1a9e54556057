use Rattle.std.proofs.Common.{ℕ, ◌<◌, ◌≡◌, Some, slice_get}
use Rattle.aig_graph.specs.declared.graph.Latch.{Latch}
use Rattle.merged_circuits.specs.Readings.{ReadsAs, read}
use Rattle.latch_readings.proofs.reading.first_misread.Given as goal

abbrev pub invariant-loop-place : goal.invariant-loop-place
invariant-loop-place l = (j : ℕ) → j < l.place → (latch : Latch) → slice_get l.fn.aig.latches j ≡ Some latch → ReadsAs l.fn.aig l.fn.held.positions.now l.fn.reads j latch (read l.fn.reads j)
