use Rattle.std.proofs.Common.{◌≡◌, ℕ, map, take}
use Rattle.std.specs.List.{enumerate_from}
use Rattle.aig_graph.specs.Marking.{mark_at}
use Rattle.aig_graph.specs.declared.graph.Gate.{Gate}
use Rattle.path_levels.specs.Bounded.{gate_left}
use Rattle.path_levels.proofs.bounding.gates_left.Given as goal

abbrev pub invariant-loop-k : goal.invariant-loop-k
invariant-loop-k l = l.left.items ≡ map (λ (e : ℕ × Gate). gate_left (mark_at l.first l.barred e.0) e.1) (take l.k (enumerate_from l.first l.gates))
