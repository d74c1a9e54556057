use Rattle.std.proofs.Common.{◌≡◌, take}
use Rattle.witness_circuits.specs.Joining.{own_count}
use Rattle.witness_circuits.proofs.literals.own_count.Given as goal

abbrev pub invariant-loop-place : goal.invariant-loop-place
invariant-loop-place l = l.count ≡ own_count (take l.place-index l.places)
