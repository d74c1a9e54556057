use Rattle.std.proofs.Common.{◌≡◌, get_or, slice_get}
use Rattle.aig_graph.specs.Graph.{free_before}
use Rattle.aig_graph.specs.Tables.{table}
use Rattle.pair_checks.specs.Openings.{opening_of}
use Rattle.pair_checks.proofs.openings.openings_of.Given as goal

abbrev pub invariant-loop-place : goal.invariant-loop-place
invariant-loop-place l = l.begins.items ≡ table 0 l.place (λ j. opening_of (get_or l.kept (free_before l.aig j) 0) (slice_get l.aig.latches j))
