use Rattle.std.proofs.Common.{take}
use Rattle.std.specs.List.{list_any}
use Rattle.aig_graph.specs.Marking.{Marks}
use Rattle.pictures.specs.Near.{names_variable}
use Rattle.pictures.proofs.named.mark_variables_named.Given as goal

abbrev pub invariant-loop-symbol : goal.invariant-loop-symbol
invariant-loop-symbol l = Marks 0 l.fn.marks l.marks (λ v. list_any (names_variable l.first l.name v) (take l.symbol-index l.symbols))
