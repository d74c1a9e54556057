use Rattle.std.proofs.Common.{◌≡◌, ◌++◌, map, take}
use Rattle.gate_sharing.specs.Copies.{copy_of}
use Rattle.map_checks.proofs.leaves.push_copies.Given as goal

abbrev pub invariant-loop-lit : goal.invariant-loop-lit
invariant-loop-lit l = l.literals.items ≡ l.fn.literals.items ++ map (copy_of l.copied) (take l.lit-index l.lits)
