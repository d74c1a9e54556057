-- A flow of units at the gates of a circuit. It says gate by gate whether a unit comes from after
-- each fan-in, and whether one goes through. It also says the number that go on to before each
-- fan-in. One unit comes after each known latch.
use Rattle.std.specs.Prelude.{◌≡◌, ℕ, ◌+◌, ◌-◌, ◌*◌, ◌<◌, ◌≤◌, ◌==◌, nat_lt, Bool, false, ◌&&◌, List, length, slice_index, if◌then◌else◌}
use Rattle.std.specs.List.{slice_index_or}
use Rattle.frame_net.specs.Flow.{sum_below}
use Rattle.aig_graph.specs.declared.graph.Gate.{Gate}
use Rattle.aig_graph.specs.Graph.{Graph, variable, first_latch, latches_and_gates, latch_at, is_known}
use Rattle.aig_graph.specs.Circuits.{Netlist}
use Rattle.frame_net.specs.Capacity.{is_observed}
use Rattle.unit_flows.specs.declared.gate_flow.GateFlow.{GateFlow}

-- the k-th gate, and what a flow does there
abbrev pub nth_gate : Graph → ℕ → Gate
nth_gate g k = slice_index_or g.gates k (record { rhs0 = 0; rhs1 = 0 })

abbrev pub nth_flow : List GateFlow → ℕ → GateFlow
nth_flow flows k = slice_index_or flows k (record { first_up = false; second_up = false; through = false; first_down = 0; second_down = 0 })

-- one if it holds, else none
unfoldable pub unit : Bool → ℕ
unit b = if b then 1 else 0

-- what the units weigh that come to before a gate from after its fan-ins, by the weight of each
-- variable
abbrev pub ups : (ℕ → ℕ) → Gate → GateFlow → ℕ
ups weight gate flow = unit flow.first_up * weight (variable gate.rhs1) + unit flow.second_up * weight (variable gate.rhs0)

-- and those that go on from there to before its fan-ins
abbrev pub downs : (ℕ → ℕ) → Gate → GateFlow → ℕ
downs weight gate flow = flow.first_down * weight (variable gate.rhs1) + flow.second_down * weight (variable gate.rhs0)

-- what the entries of a table by variable weigh
abbrev pub weigh : ℕ → List ℕ → (ℕ → ℕ) → ℕ
weigh first entries weight = sum_below (length entries) (λ p. slice_index entries p * weight (first + p))

-- By variable, what the first n gates tell. It has the units that go on from after it to gates, and
-- those that come to before it from gates that read it. However variables are weighed, the tables
-- weigh what these units do.
pub record AreTallies (g : Graph) (flows : List GateFlow) (n : ℕ) (went came : List ℕ) : Type 0 where
  pub as_long : length went ≡ latches_and_gates g
  pub long : length came ≡ latches_and_gates g
  pub ups : (weight : ℕ → ℕ) → weigh (first_latch g) went weight ≡ sum_below n (λ k. ups weight (nth_gate g k) (nth_flow flows k))
  pub downs : (weight : ℕ → ℕ) → weigh (first_latch g) came weight ≡ sum_below n (λ k. downs weight (nth_gate g k) (nth_flow flows k))

-- whether a unit comes after the variable at a place: after each known latch, and if one goes
-- through a gate
abbrev pub comes_after : Graph → List GateFlow → ℕ → Bool
comes_after g flows p = if nat_lt p (length g.latches) then is_known (latch_at g (first_latch g + p)) else (nth_flow flows (p - length g.latches)).through

-- no more units go on from after the variable at a place than come there
abbrev pub IsBalancedAfter : Graph → List GateFlow → List ℕ → ℕ → Type 0
IsBalancedAfter g flows went p = slice_index went p ≤ unit (comes_after g flows p)

-- no more units go on from before a gate than come there, if `came` of these come from gates that
-- read it
abbrev pub IsBalancedBefore : GateFlow → ℕ → Type 0
IsBalancedBefore flow came = unit flow.through + flow.first_down + flow.second_down ≤ unit flow.first_up + unit flow.second_up + came

-- no node gives more than it gets
pub record IsBalanced (g : Graph) (flows : List GateFlow) (went came : List ℕ) : Type 0 where
  pub after : (p : ℕ) → p < latches_and_gates g → IsBalancedAfter g flows went p
  pub before : (k : ℕ) → k < length g.gates → IsBalancedBefore (nth_flow flows k) (slice_index came (length g.latches + k))

-- Whether a unit is left after the variable at a place, and comes to the sink. It does if something
-- other than a passable gate reads the variable.
abbrev pub arrives : Netlist → List ℕ → List GateFlow → List ℕ → ℕ → Bool
arrives c held flows went p = is_observed c.aig c.props held (first_latch c.aig + p) && comes_after c.aig flows p && (slice_index went p == 0)

-- how many units come to the sink
abbrev pub arrivals : Netlist → List ℕ → List GateFlow → List ℕ → ℕ
arrivals c held flows went = sum_below (latches_and_gates c.aig) (λ p. unit (arrives c held flows went p))
