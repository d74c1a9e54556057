use Rattle.std.proofs.Common.{◌≡◌, ◌≤◌, length, vec_capacity}
use Rattle.simulation_commands.specs.Random.{digits}
use Rattle.simulation_commands.proofs.WordLaws.{HasDrawn}
use Rattle.simulation_commands.proofs.generating.digits.Given as goal

abbrev pub invariant-loop-place : goal.invariant-loop-place
invariant-loop-place l = record {
  drawn : HasDrawn l.seed l.place l.generator l.word;
  made : l.values.items ≡ digits l.seed l.place;
  long : length l.values.items ≡ l.place;
  room : l.count ≤ vec_capacity l.values;
}
