use Rattle.std.proofs.Common.{◌≡◌, ◌≤◌, vec_capacity}
use Rattle.aig_graph.specs.Tables.{table}
use Rattle.witness_circuits.specs.Lifting.{literal_name}
use Rattle.witness_circuits.proofs.names.names.Given as goal

abbrev pub invariant-loop-position : goal.invariant-loop-position
invariant-loop-position l = record { room : l.count ≤ vec_capacity l.names; filled : l.names.items ≡ table 0 l.position (literal_name l.first) }
