use Rattle.std.proofs.Common.{◌≡◌, ◌+◌}
use Rattle.aig_graph.specs.Graph.{first_latch}
use Rattle.aig_graph.specs.Tables.{table}
use Rattle.clean.specs.Sweep.{is_marked}
use Rattle.clean.proofs.tracing.stays_of.Given as goal

abbrev pub invariant-loop-place : goal.invariant-loop-place
invariant-loop-place l = l.stays.items ≡ table 0 l.place (λ j. is_marked l.reached (first_latch l.aig + j))
