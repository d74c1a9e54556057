use Rattle.std.proofs.Common.{◌≡◌, ◌≤◌, vec_capacity, vec_len}
use Rattle.std.specs.List.{range_with_len}
use Rattle.clean.proofs.places.all_places.Given as goal

abbrev pub invariant-loop-place : goal.invariant-loop-place
invariant-loop-place l = record {
  few : vec_len l.places ≡ l.place;
  room : l.free ≤ vec_capacity l.places;
  filled : l.places.items ≡ range_with_len 0 l.place;
}
