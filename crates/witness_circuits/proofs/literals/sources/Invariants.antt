use Rattle.std.proofs.Common.{◌≤◌, length, vec_capacity}
use Rattle.witness_circuits.proofs.SourceLaws.{AreFirst}
use Rattle.witness_circuits.proofs.literals.sources.Given as goal

abbrev pub invariant-loop-place : goal.invariant-loop-place
invariant-loop-place l = record { room : length l.places ≤ vec_capacity l.lits; filled : AreFirst l.places l.shared l.own l.place-index l.next l.lits.items }
