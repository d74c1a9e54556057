use Rattle.std.proofs.Common.{take, ℕ, not, ◌&&◌}
use Rattle.std.specs.List.{list_any, enumerate_from}
use Rattle.aig_graph.specs.declared.graph.Gate.{Gate}
use Rattle.aig_graph.specs.Border.{is_fan_in}
use Rattle.aig_graph.specs.Marking.{Marks, mark_at}
use Rattle.aig_graph.proofs.reading.mark_gates.Given as goal

abbrev pub invariant-loop-k : goal.invariant-loop-k
invariant-loop-k l =
    Marks l.first l.fn.read l.read (λ v. list_any (λ (e : ℕ × Gate). not (mark_at l.first l.inside e.0) && is_fan_in v e.1) (take l.k (enumerate_from l.first_gate l.gates)))
