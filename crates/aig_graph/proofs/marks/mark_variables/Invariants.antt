use Rattle.std.proofs.Common.{take}
use Rattle.aig_graph.specs.Marking.{Marks, has}
use Rattle.aig_graph.proofs.marks.mark_variables.Given as goal

abbrev pub invariant-loop-var : goal.invariant-loop-var
invariant-loop-var l = Marks l.first l.fn.marks l.marks (has (take l.var-index l.vars))
