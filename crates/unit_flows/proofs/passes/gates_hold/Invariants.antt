use Rattle.std.proofs.Common.{ℕ, ◌<◌}
use Rattle.aig_graph.specs.Marking.{mark_at}
use Rattle.aig_graph.specs.Graph.{first_latch}
use Rattle.unit_flows.specs.Passes.{GateHolds}
use Rattle.unit_flows.proofs.passes.gates_hold.Given as goal

abbrev pub invariant-loop-k : goal.invariant-loop-k
invariant-loop-k l = (i : ℕ) → i < l.k → GateHolds l.frame.circuit.now l.frame.keep.now l.flows l.came (mark_at (first_latch l.frame.circuit.now.aig) l.before) (mark_at (first_latch l.frame.circuit.now.aig) l.after) i
