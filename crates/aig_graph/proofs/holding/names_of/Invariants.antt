use Rattle.std.proofs.Common.{ℕ, List, ◌≡◌, bytes_eq, take}
use Rattle.std.specs.HashSet.{contains_by}
use Rattle.aig_graph.specs.Keep.{has_name}
use Rattle.aig_graph.proofs.holding.names_of.Given as goal

abbrev pub invariant-loop-symbol : goal.invariant-loop-symbol
invariant-loop-symbol l = (q : List ℕ) → contains_by (λ k. bytes_eq q k.now) l.found ≡ has_name (take l.symbol-index l.symbols) q
