use Rattle.std.proofs.Common.{ℕ, ◌≡◌, ◌+◌, ◌*◌, ◌<◌, ◌≤◌, Bool, length, get_or}
use Rattle.aig_graph.specs.Graph.{first_latch, variable}
use Rattle.aig_graph.specs.Gates.{IsNegated}
use Rattle.gate_sharing.specs.Equal.{IsRight, StaysRight}
use Rattle.map_checks.proofs.leaves.latch_leaves.Given as goal

abbrev pub invariant-loop-place : goal.invariant-loop-place
invariant-loop-place l = record {
  right : StaysRight l.fn.equal l.equal;
  long : length l.literals.items ≡ l.place;
  below : (j : ℕ) → j < l.place → variable (get_or l.literals.items j 0) ≤ first_latch l.aig + j;
  values : (values : ℕ → Bool) → IsNegated values → IsRight l.fn.equal values → (j : ℕ) → j < l.place → values (get_or l.literals.items j 0) ≡ values (2 * (first_latch l.aig + j));
}
