use Rattle.map_circuits.specs.Constraining.{AddsSubstitutes}
use Rattle.map_circuits.proofs.constraining.add_constraints.Given as goal

abbrev pub invariant-loop-place : goal.invariant-loop-place
invariant-loop-place l = AddsSubstitutes l.fn.gates l.first l.functions l.substitutes l.place l.gates l.fn.constraints.items l.constraints.items
