use Rattle.std.proofs.Common.{◌≡◌, map, take}
use Rattle.witnesses.specs.Runs.{is_one}
use Rattle.witnesses.proofs.runs.steps.Given as goal

abbrev pub invariant-loop-row : goal.invariant-loop-row
invariant-loop-row l = l.steps.items ≡ map (map is_one) (take l.row-index l.inputs)
