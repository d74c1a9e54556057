use Rattle.aig_graph.specs.Gates.{Gates}
use Rattle.map_checks.specs.Parts.{AssumesCase}
use Rattle.map_checks.proofs.cases.assume_case.Given as goal

abbrev pub invariant-loop-lit : goal.invariant-loop-lit
invariant-loop-lit l = (k : Gates) → AssumesCase k l.first l.case l.fn.equal l.equal
