use Rattle.std.proofs.Common.{◌≡◌, map, take}
use Rattle.witnesses.specs.Runs.{taken_digit}
use Rattle.witnesses.proofs.settling.settled_row.Given as goal

abbrev pub invariant-loop-digit : goal.invariant-loop-digit
invariant-loop-digit l = l.row.items ≡ map taken_digit (take l.digit-index l.digits)
