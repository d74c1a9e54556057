use Rattle.std.proofs.Common.{◌≡◌, ◌+◌, ◌*◌, ◌≤◌, vec_capacity}
use Rattle.aig_graph.specs.Tables.{table}
use Rattle.witness_circuits.proofs.literals.numbered.Given as goal

abbrev pub invariant-loop-place : goal.invariant-loop-place
invariant-loop-place l = record { room : l.count ≤ vec_capacity l.lits; filled : l.lits.items ≡ table 0 l.place (λ k. 2 * (l.first + k)) }
