use Rattle.unit_flows.proofs.MarkLaws.{AreTurned}
use Rattle.unit_flows.proofs.nearest.flip.Given as goal

abbrev pub invariant-loop-k : goal.invariant-loop-k
invariant-loop-k l = AreTurned l.fn.marks l.marks l.k
