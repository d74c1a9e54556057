use Rattle.witness_circuits.specs.Latches.{AreOwn}
use Rattle.witness_circuits.proofs.latches.own_latches.Given as goal

abbrev pub invariant-loop-place : goal.invariant-loop-place
invariant-loop-place l = AreOwn l.places l.latches l.place l.own.items
