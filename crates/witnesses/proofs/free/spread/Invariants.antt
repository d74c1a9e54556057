use Rattle.std.proofs.Common.{◌≡◌, ◌≤◌, ◌-◌, ◌++◌, drop}
use Rattle.witnesses.specs.Carrying.{spread}
use Rattle.witnesses.proofs.free.spread.Given as goal

abbrev pub invariant-loop-place : goal.invariant-loop-place
invariant-loop-place l = record {
  few : l.next ≤ l.place;
  rest : spread l.count 0 l.kept l.digits ≡ l.free.items ++ spread (l.count - l.place) l.place (drop l.next l.kept) (drop l.next l.digits);
}
