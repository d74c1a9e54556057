use Rattle.std.proofs.Common.{◌+◌, length}
use Rattle.aig_graph.specs.Marking.{mark_at}
use Rattle.aig_graph.specs.Graph.{first_latch}
use Rattle.unit_flows.proofs.PlaceLaws.{AreSeen}
use Rattle.unit_flows.proofs.passes.places_hold.Given as goal

abbrev pub invariant-loop-place : goal.invariant-loop-place
invariant-loop-place l = AreSeen l.frame.circuit.now l.frame.keep.now l.flows l.went (mark_at (first_latch l.frame.circuit.now.aig) l.before) (mark_at (first_latch l.frame.circuit.now.aig) l.after) l.place l.seen.arrived l.seen.crossed l.seen.holds

abbrev pub invariant-loop-k : goal.invariant-loop-k
invariant-loop-k l = AreSeen l.frame.circuit.now l.frame.keep.now l.flows l.went (mark_at (first_latch l.frame.circuit.now.aig) l.before) (mark_at (first_latch l.frame.circuit.now.aig) l.after) (length l.latches + l.k) l.seen.arrived l.seen.crossed l.seen.holds
