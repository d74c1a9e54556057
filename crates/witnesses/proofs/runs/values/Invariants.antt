use Rattle.std.proofs.Common.{◌≡◌, map, take}
use Rattle.witnesses.specs.Runs.{is_one}
use Rattle.witnesses.proofs.runs.values.Given as goal

abbrev pub invariant-loop-digit : goal.invariant-loop-digit
invariant-loop-digit l = l.values.items ≡ map is_one (take l.digit-index l.digits)
