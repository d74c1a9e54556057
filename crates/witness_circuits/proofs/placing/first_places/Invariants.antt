use Rattle.std.proofs.Common.{◌≡◌, ◌≤◌, vec_capacity}
use Rattle.aig_graph.specs.Tables.{table}
use Rattle.witness_circuits.specs.Naming.{place_below}
use Rattle.witness_circuits.proofs.placing.first_places.Given as goal

abbrev pub invariant-loop-place : goal.invariant-loop-place
invariant-loop-place l = record { room : l.many ≤ vec_capacity l.places; filled : l.places.items ≡ table 0 l.place (place_below l.count) }
