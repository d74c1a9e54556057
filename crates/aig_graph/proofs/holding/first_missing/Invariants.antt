use Rattle.std.proofs.Common.{ℕ, ◌≡◌, ◌<◌, true, map, get_or, []}
use Rattle.aig_graph.specs.Keep.{has_name}
use Rattle.aig_graph.proofs.holding.first_missing.Given as goal

abbrev pub invariant-loop-place : goal.invariant-loop-place
invariant-loop-place l = (k : ℕ) → k < l.place → has_name l.symbols (get_or (map (λ name. name.items) l.names) k []) ≡ true
