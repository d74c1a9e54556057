use Rattle.std.proofs.Common.{◌≡◌}
use Rattle.aig_graph.specs.Tables.{table}
use Rattle.aig_graph.specs.Graph.{first_gate}
use Rattle.path_levels.specs.Levels.{level}
use Rattle.path_levels.proofs.leveling.gate_levels.Given as goal

abbrev pub invariant-loop-gate : goal.invariant-loop-gate
invariant-loop-gate l = l.entries.items ≡ table (first_gate l.aig) l.gate-index (level l.aig)
