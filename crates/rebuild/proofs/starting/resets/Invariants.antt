use Rattle.std.proofs.Common.{◌≡◌}
use Rattle.aig_graph.specs.Graph.{first_gate}
use Rattle.rebuild.specs.Starting.{start_reset}
use Rattle.aig_graph.specs.Tables.{table}
use Rattle.rebuild.proofs.starting.resets.Given as goal

abbrev pub invariant-loop-gate : goal.invariant-loop-gate
invariant-loop-gate l = l.resets.items ≡ table (first_gate l.aig) l.gate-index (start_reset l.aig l.keep)
