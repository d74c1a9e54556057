use Rattle.std.proofs.Common.{◌≡◌, ◌≤◌, length, vec_capacity}
use Rattle.simulation_commands.specs.Random.{random_stimulus, state_after}
use Rattle.simulation_commands.proofs.generating.random_stimulus.Given as goal

abbrev pub invariant-loop : goal.invariant-loop
invariant-loop l = record {
  state : l.generator ≡ state_after l.seed l.counter;
  made : l.made.items ≡ random_stimulus l.inputs l.free l.counter l.steps l.seed;
  long : length l.made.items ≡ l.counter;
  room : l.sequences ≤ vec_capacity l.made;
}
