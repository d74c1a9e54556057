-- Nodes before and after variables from which more units could come to the sink.
use Rattle.std.specs.Prelude.{◌≡◌, ℕ, ◌+◌, ◌<◌, Bool, true, false, List, length}
use Rattle.aig_graph.specs.Marking.{mark_at}
use Rattle.aig_graph.specs.declared.graph.Gate.{Gate}
use Rattle.aig_graph.specs.Graph.{variable, first_latch, first_gate}
use Rattle.aig_graph.specs.Circuits.{Netlist}
use Rattle.frame_net.specs.Capacity.{is_observed}
use Rattle.unit_flows.specs.declared.gate_flow.GateFlow.{GateFlow}
use Rattle.unit_flows.specs.Units.{nth_gate, nth_flow}

-- Let a set have nodes before and after variables. With each end of a residual arc at the gate w it
-- has the arc's beginning. From before a gate a unit may go through it if none does. It may also go
-- on to before a fan-in, or back to after one from which a unit came. From after a fan-in it may go
-- on to before the gate. From before a fan-in it may go back to before the gate if one went on.
-- From after the gate it may go back if one went through.
pub record HoldsTails (before after : ℕ → Bool) (w : ℕ) (gate : Gate) (flow : GateFlow) : Type 0 where
  pub through : after w ≡ true → flow.through ≡ false → before w ≡ true
  pub first_on : before (variable gate.rhs1) ≡ true → before w ≡ true
  pub second_on : before (variable gate.rhs0) ≡ true → before w ≡ true
  pub first_home : after (variable gate.rhs1) ≡ true → flow.first_up ≡ true → before w ≡ true
  pub second_home : after (variable gate.rhs0) ≡ true → flow.second_up ≡ true → before w ≡ true
  pub first_reads : before w ≡ true → after (variable gate.rhs1) ≡ true
  pub second_reads : before w ≡ true → after (variable gate.rhs0) ≡ true
  pub first_back : before w ≡ true → 0 < flow.first_down → before (variable gate.rhs1) ≡ true
  pub second_back : before w ≡ true → 0 < flow.second_down → before (variable gate.rhs0) ≡ true
  pub back : before w ≡ true → flow.through ≡ true → after w ≡ true

-- it does so at each gate, and holds the nodes after what is read from outside the passable gates
pub record IsUpstream (c : Netlist) (held : List ℕ) (flows : List GateFlow) (before after : ℕ → Bool) : Type 0 where
  pub sink : (v : ℕ) → is_observed c.aig c.props held v ≡ true → after v ≡ true
  pub gates : (k : ℕ) → k < length c.aig.gates → HoldsTails before after (first_gate c.aig + k) (nth_gate c.aig k) (nth_flow flows k)

-- what is marked before and after variables lies in the set
pub record AreWithin (first : ℕ) (marks_before marks_after : List Bool) (before after : ℕ → Bool) : Type 0 where
  pub each_before : (v : ℕ) → mark_at first marks_before v ≡ true → before v ≡ true
  pub each_after : (v : ℕ) → mark_at first marks_after v ≡ true → after v ≡ true

-- all that is marked reaches the sink over residual arcs
abbrev pub ReachSink : Netlist → List ℕ → List GateFlow → List Bool → List Bool → Type 0
ReachSink c held flows marks_before marks_after = (before after : ℕ → Bool) → IsUpstream c held flows before after → AreWithin (first_latch c.aig) marks_before marks_after before after
