use Rattle.std.proofs.Common.{ℕ, ◌≡◌, ◌+◌, ◌≤◌, length, vec_capacity}
use Rattle.simulation_commands.specs.Random.{random_steps, state_after}
use Rattle.simulation_commands.proofs.generating.steps.Given as goal

abbrev pub invariant-loop : goal.invariant-loop
invariant-loop l = record {
  made : (seed : ℕ) → l.initial.generator ≡ state_after seed 1 → (l.generator ≡ state_after seed (l.counter + 1)) × (l.rows.items ≡ random_steps l.inputs l.counter seed);
  long : length l.rows.items ≡ l.counter;
  room : l.count ≤ vec_capacity l.rows;
}
