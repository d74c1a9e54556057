use Rattle.std.proofs.Common.{◌≡◌}
use Rattle.aig_graph.specs.Graph.{variables_end}
use Rattle.aig_graph.specs.Tables.{table}
use Rattle.pictures.specs.Near.{is_near}
use Rattle.pictures.proofs.near.near.Given as goal

abbrev pub invariant-loop : goal.invariant-loop
invariant-loop l = l.marks.items ≡ table 0 (variables_end l.circuit.aig) (is_near l.circuit l.name l.counter)
