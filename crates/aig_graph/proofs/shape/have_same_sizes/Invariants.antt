use Rattle.std.proofs.Common.{ℕ, ◌≡◌, ◌<◌, length, get_or, []}
use Rattle.aig_graph.proofs.shape.have_same_sizes.Given as goal

abbrev pub invariant-loop-k : goal.invariant-loop-k
invariant-loop-k l = (i : ℕ) → i < l.k → length (get_or l.a i []) ≡ length (get_or l.b i [])
