use Rattle.std.proofs.Common.{◌+◌, ◌-◌, ◌≤◌, ◌≡◌, length, take}
use Rattle.binary_file.proofs.DeltaLaws.{Spells}
use Rattle.map_circuits.proofs.packing.put_delta.Given as goal

-- n bytes stand from the place on, and what is left of the number is spelt by those that follow
abbrev pub invariant-loop-rest : goal.invariant-loop-rest
invariant-loop-rest l = record {
  from : l.at ≤ l.end;
  few : l.end ≤ l.at + 4;
  long : length l.bytes ≡ length l.fn.bytes;
  spells : Spells (take l.at l.fn.bytes) (take l.end l.bytes) (l.end - l.at) l.rest l.number;
}

abbrev pub decreases-loop-rest : goal.decreases-loop-rest
decreases-loop-rest l = l.rest
