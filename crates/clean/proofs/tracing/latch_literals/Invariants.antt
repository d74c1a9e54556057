use Rattle.std.proofs.Common.{◌≡◌, slice_get}
use Rattle.aig_graph.specs.Tables.{table}
use Rattle.cleaned_circuits.specs.Latches.{latch_substitute}
use Rattle.clean.proofs.tracing.latch_literals.Given as goal

abbrev pub invariant-loop-place : goal.invariant-loop-place
invariant-loop-place l = l.literals.items ≡ table 0 l.place (λ j. latch_substitute l.aig l.held j (slice_get l.aig.latches j))
