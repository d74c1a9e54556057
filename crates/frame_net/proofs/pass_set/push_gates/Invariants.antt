use Rattle.std.proofs.Common.{◌≡◌, ◌+◌, length}
use Rattle.aig_graph.specs.Tables.{table}
use Rattle.aig_graph.specs.Graph.{first_latch}
use Rattle.frame_net.specs.Passable.{is_passable}
use Rattle.frame_net.proofs.pass_set.push_gates.Given as goal

abbrev pub invariant-loop-gate : goal.invariant-loop-gate
invariant-loop-gate l = record { filled : l.marks.items ≡ table (first_latch l.aig) (length l.aig.latches + l.gate-index) (is_passable l.aig l.keep) }
