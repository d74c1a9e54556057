use Rattle.std.proofs.Common.{take}
use Rattle.std.specs.List.{list_any}
use Rattle.aig_graph.specs.Marking.{Marks}
use Rattle.pictures.specs.Near.{names_justice}
use Rattle.pictures.proofs.named.mark_justice_named.Given as goal

abbrev pub invariant-loop-symbol : goal.invariant-loop-symbol
invariant-loop-symbol l = Marks 0 l.fn.marks l.marks (λ v. list_any (names_justice l.justice l.name v) (take l.symbol-index l.symbols))
