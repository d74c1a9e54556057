use Rattle.std.proofs.Common.{◌≡◌, ◌++◌, map, take}
use Rattle.map_circuits.specs.Instances.{substitute}
use Rattle.witness_circuits.specs.Literals.{negated}
use Rattle.witness_circuits.proofs.literals.push_negations.Given as goal

abbrev pub invariant-loop-lit : goal.invariant-loop-lit
invariant-loop-lit l = l.substitutes.items ≡ l.fn.substitutes.items ++ map (λ lit. negated (substitute l.instance lit)) (take l.lit-index l.lits)
