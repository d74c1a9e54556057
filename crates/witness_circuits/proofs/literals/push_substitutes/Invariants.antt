use Rattle.std.proofs.Common.{◌≡◌, ◌++◌, map, take}
use Rattle.map_circuits.specs.Instances.{substitute}
use Rattle.witness_circuits.proofs.literals.push_substitutes.Given as goal

abbrev pub invariant-loop-lit : goal.invariant-loop-lit
invariant-loop-lit l = l.substitutes.items ≡ l.fn.substitutes.items ++ map (substitute l.instance) (take l.lit-index l.lits)
