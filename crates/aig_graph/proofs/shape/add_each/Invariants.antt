use Rattle.std.proofs.Common.{◌≡◌, ◌++◌, take}
use Rattle.std.specs.List.{flat_map}
use Rattle.aig_graph.proofs.shape.add_each.Given as goal

abbrev pub invariant-loop-lits : goal.invariant-loop-lits
invariant-loop-lits l = l.literals.items ≡ l.fn.literals.items ++ flat_map (λ lits. lits) (take l.lits-index l.lists)
