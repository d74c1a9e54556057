use Rattle.std.proofs.Common.{ℕ, List, ◌≡◌, bytes_eq, take}
use Rattle.std.specs.HashSet.{contains_by}
use Rattle.std.specs.List.{list_any}
use Rattle.aig_graph.proofs.holding.set_of.Given as goal

abbrev pub invariant-loop-name : goal.invariant-loop-name
invariant-loop-name l = (q : List ℕ) → contains_by (λ k. bytes_eq q k.now) l.found ≡ list_any (λ name. bytes_eq q name.items) (take l.name-index l.names)
