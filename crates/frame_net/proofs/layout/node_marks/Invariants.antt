use Rattle.std.proofs.Common.{◌≡◌, ℕ, List}
use Rattle.aig_graph.specs.Tables.{table}
use Rattle.aig_graph.specs.Graph.{first_latch}
use Rattle.frame_net.specs.Passable.{IsPassSet}
use Rattle.frame_net.specs.Capacity.{has_node}
use Rattle.frame_net.proofs.layout.node_marks.Given as goal

abbrev pub invariant-loop-k : goal.invariant-loop-k
invariant-loop-k l = record { filled : (held : List ℕ) → IsPassSet l.aig held l.pass → l.marks.items ≡ table (first_latch l.aig) l.k (has_node l.aig held) }
