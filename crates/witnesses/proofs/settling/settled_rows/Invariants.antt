use Rattle.std.proofs.Common.{◌≡◌, map, take}
use Rattle.witnesses.specs.Runs.{taken_digit}
use Rattle.witnesses.proofs.settling.settled_rows.Given as goal

abbrev pub invariant-loop-row : goal.invariant-loop-row
invariant-loop-row l = l.all.items ≡ map (map taken_digit) (take l.row-index l.rows)
