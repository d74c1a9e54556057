use Rattle.map_checks.specs.Images.{Assumes}
use Rattle.map_checks.proofs.learning.assume_constraints.Given as goal

abbrev pub invariant-loop-constraint : goal.invariant-loop-constraint
invariant-loop-constraint l = Assumes l.map l.image l.fn.equal l.equal
