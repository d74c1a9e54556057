use Rattle.std.proofs.Common.{◌≡◌, ◌≤◌, ◌++◌, drop}
use Rattle.witnesses.specs.Carrying.{opening_digits}
use Rattle.witnesses.proofs.free.opening.Given as goal

abbrev pub invariant-loop-latch : goal.invariant-loop-latch
invariant-loop-latch l = record {
  few : l.next ≤ l.latch-index;
  rest : opening_digits l.latches l.free ≡ l.digits.items ++ opening_digits (drop l.latch-index l.latches) (drop l.next l.free);
}
