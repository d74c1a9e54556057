use Rattle.std.proofs.Common.{◌≡◌, length}
use Rattle.gate_sharing.specs.Equal.{StaysRight}
use Rattle.gate_sharing.proofs.equalities.Equalities.cover.Given as goal

abbrev pub invariant-loop-place : goal.invariant-loop-place
invariant-loop-place l = record {
  first : l.self-inside.first ≡ l.fn.self.first;
  long : length l.self-inside.substitutes.items ≡ l.place;
  right : StaysRight l.fn.self (record { first = l.self-inside.first; substitutes = l.self-inside.substitutes.items });
}
