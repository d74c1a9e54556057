use Rattle.std.proofs.Common.{◌≡◌, map, take}
use Rattle.aig_graph.specs.Keep.{held_by}
use Rattle.aig_graph.proofs.holding.held_by.Given as goal

abbrev pub invariant-loop-symbol : goal.invariant-loop-symbol
invariant-loop-symbol l = l.positions.items ≡ held_by (map (λ name. name.items) l.names) (take l.symbol-index l.symbols)
