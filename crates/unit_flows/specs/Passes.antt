-- What the judge sees in its two passes.
use Rattle.std.specs.Prelude.{◌≡◌, ℕ, ◌+◌, ◌<◌, ◌≤◌, Bool, true, List, length, slice_index}
use Rattle.aig_graph.specs.Graph.{first_latch, first_gate, latches_and_gates}
use Rattle.aig_graph.specs.Circuits.{Netlist}
use Rattle.frame_net.specs.Passable.{is_passable}
use Rattle.frame_net.specs.Capacity.{is_observed}
use Rattle.unit_flows.specs.declared.gate_flow.GateFlow.{GateFlow}
use Rattle.unit_flows.specs.Units.{nth_gate, nth_flow, IsBalancedAfter, IsBalancedBefore, arrivals}
use Rattle.unit_flows.specs.Shown.{IsCutAt, crossings}

-- the k-th gate gives no more than it gets, and if it is passable the marks are a cut there
pub record GateHolds (c : Netlist) (held : List ℕ) (flows : List GateFlow) (came : List ℕ) (before after : ℕ → Bool) (k : ℕ) : Type 0 where
  pub balanced : IsBalancedBefore (nth_flow flows k) (slice_index came (length c.aig.latches + k))
  pub cut : is_passable c.aig held (first_gate c.aig + k) ≡ true → IsCutAt (first_gate c.aig) before after (first_gate c.aig + k) (nth_gate c.aig k)

-- no more goes on from after the variable at a place than comes there, and it is marked if it
-- leaves
pub record PlaceHolds (c : Netlist) (held : List ℕ) (flows : List GateFlow) (went : List ℕ) (after : ℕ → Bool) (p : ℕ) : Type 0 where
  pub balanced : IsBalancedAfter c.aig flows went p
  pub marked : is_observed c.aig c.props held (first_latch c.aig + p) ≡ true → after (first_latch c.aig + p) ≡ true

-- all places do, and no more variables cross than units arrive
pub record PlacesHold (c : Netlist) (held : List ℕ) (flows : List GateFlow) (went : List ℕ) (before after : ℕ → Bool) : Type 0 where
  pub each : (p : ℕ) → p < latches_and_gates c.aig → PlaceHolds c held flows went after p
  pub full : crossings c held before after ≤ arrivals c held flows went
