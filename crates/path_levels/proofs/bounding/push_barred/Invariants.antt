use Rattle.std.proofs.Common.{◌≡◌, ◌++◌, ℕ, take}
use Rattle.std.specs.List.{enumerate_from, flat_map}
use Rattle.aig_graph.specs.Marking.{mark_at}
use Rattle.aig_graph.specs.declared.graph.Gate.{Gate}
use Rattle.path_levels.specs.Bounded.{reads_barred}
use Rattle.path_levels.proofs.bounding.push_barred.Given as goal

abbrev pub invariant-loop-k : goal.invariant-loop-k
invariant-loop-k l = l.outputs.items ≡ l.fn.outputs.items ++ flat_map (λ (e : ℕ × Gate). reads_barred (mark_at l.first l.barred e.0) e.1) (take l.k (enumerate_from l.first l.gates))
