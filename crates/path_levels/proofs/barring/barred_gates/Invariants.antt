use Rattle.std.proofs.Common.{◌≡◌}
use Rattle.aig_graph.specs.Tables.{table}
use Rattle.aig_graph.specs.Graph.{first_gate}
use Rattle.path_levels.specs.Bounded.{is_barred}
use Rattle.path_levels.proofs.barring.barred_gates.Given as goal

abbrev pub invariant-loop-k : goal.invariant-loop-k
invariant-loop-k l = l.barred.items ≡ table (first_gate l.aig) l.k (is_barred l.bound l.aig l.keep)
