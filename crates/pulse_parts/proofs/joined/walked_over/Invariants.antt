use Rattle.std.proofs.Common.{◌≡◌, ◌+◌, ◌-◌, ◌≤◌, ◌^◌, min, drop}
use Rattle.pulse_parts.specs.Parts.{rows_walked}
use Rattle.pulse_parts.proofs.joined.walked_over.Given as goal

abbrev pub invariant-loop-part : goal.invariant-loop-part
invariant-loop-part l = record {
  small : l.walked ≤ 2 ^ 32 - 1;
  sum : min (l.walked + rows_walked (drop l.part-index l.parts)) (2 ^ 32 - 1) ≡ min (rows_walked l.parts) (2 ^ 32 - 1);
}
