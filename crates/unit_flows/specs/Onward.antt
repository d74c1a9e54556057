-- Nodes before and after variables to which units that are left could go.
use Rattle.std.specs.Prelude.{◌≡◌, ℕ, ◌+◌, ◌<◌, ◌≤◌, ◌==◌, Bool, true, false, not, ◌&&◌, List, length, slice_index}
use Rattle.aig_graph.specs.Marking.{mark_at}
use Rattle.aig_graph.specs.declared.graph.Gate.{Gate}
use Rattle.aig_graph.specs.Graph.{variable, first_latch, first_gate, latches_and_gates, variables_end}
use Rattle.aig_graph.specs.Circuits.{Netlist}
use Rattle.frame_net.specs.Capacity.{is_observed}
use Rattle.unit_flows.specs.declared.gate_flow.GateFlow.{GateFlow}
use Rattle.unit_flows.specs.Units.{unit, nth_gate, nth_flow, comes_after}
use Rattle.unit_flows.specs.Marks.{AreWithin}

-- Let a set have nodes before and after variables. With each beginning of a residual arc at the
-- gate w it has the arc's end.
pub record HoldsHeads (before after : ℕ → Bool) (w : ℕ) (gate : Gate) (flow : GateFlow) : Type 0 where
  pub through : before w ≡ true → flow.through ≡ false → after w ≡ true
  pub first_on : before w ≡ true → before (variable gate.rhs1) ≡ true
  pub second_on : before w ≡ true → before (variable gate.rhs0) ≡ true
  pub first_home : before w ≡ true → flow.first_up ≡ true → after (variable gate.rhs1) ≡ true
  pub second_home : before w ≡ true → flow.second_up ≡ true → after (variable gate.rhs0) ≡ true
  pub first_reads : after (variable gate.rhs1) ≡ true → before w ≡ true
  pub second_reads : after (variable gate.rhs0) ≡ true → before w ≡ true
  pub first_back : before (variable gate.rhs1) ≡ true → 0 < flow.first_down → before w ≡ true
  pub second_back : before (variable gate.rhs0) ≡ true → 0 < flow.second_down → before w ≡ true
  pub back : after w ≡ true → flow.through ≡ true → before w ≡ true

-- whether a unit is left after the variable at a place, and can't leave there
abbrev pub waits : Netlist → List ℕ → List GateFlow → List ℕ → ℕ → Bool
waits c held flows went p = not (is_observed c.aig c.props held (first_latch c.aig + p)) && comes_after c.aig flows p && (slice_index went p == 0)

-- more units come to before a gate than go on from there, if `came` of these come from gates that
-- read it
abbrev pub IsFuller : GateFlow → ℕ → Type 0
IsFuller flow came = unit flow.through + flow.first_down + flow.second_down < unit flow.first_up + unit flow.second_up + came

-- a set that holds with each beginning of a residual arc its end, and each node at which a unit is
-- left
pub record IsDownstream (c : Netlist) (held : List ℕ) (flows : List GateFlow) (went came : List ℕ) (before after : ℕ → Bool) : Type 0 where
  pub left_after : (p : ℕ) → p < latches_and_gates c.aig → waits c held flows went p ≡ true → after (first_latch c.aig + p) ≡ true
  pub left_before : (k : ℕ) → k < length c.aig.gates → IsFuller (nth_flow flows k) (slice_index came (length c.aig.latches + k)) → before (first_gate c.aig + k) ≡ true
  pub gates : (k : ℕ) → k < length c.aig.gates → HoldsHeads before after (first_gate c.aig + k) (nth_gate c.aig k) (nth_flow flows k)

-- all that is marked is reached over residual arcs from a node at which a unit is left: it lies in
-- each of these sets
abbrev pub AreReachedFromLeft : Netlist → List ℕ → List GateFlow → List ℕ → List ℕ → List Bool → List Bool → Type 0
AreReachedFromLeft c held flows went came marks_before marks_after = (before after : ℕ → Bool) → IsDownstream c held flows went came before after → AreWithin (first_latch c.aig) marks_before marks_after before after

-- each node before a gate that isn't marked lies in all of these sets
abbrev pub AreFarFromLeft : Netlist → List ℕ → List GateFlow → List ℕ → List ℕ → List Bool → Type 0
AreFarFromLeft c held flows went came marks_before = (before after : ℕ → Bool) → IsDownstream c held flows went came before after
    → (v : ℕ) → first_latch c.aig ≤ v → v < variables_end c.aig → mark_at (first_latch c.aig) marks_before v ≡ false → before v ≡ true
