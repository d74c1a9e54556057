use Rattle.std.proofs.Common.{◌≡◌, ◌+◌, ◌*◌}
use Rattle.aig_graph.specs.Tables.{table}
use Rattle.retiming_maps.proofs.start.input_literals.Given as goal

abbrev pub invariant-loop-place : goal.invariant-loop-place
invariant-loop-place l = l.literals.items ≡ table 0 l.place (λ j. 2 * (1 + j))
