-- A set of gates that a flow of units shows to be the greatest least set.
use Rattle.std.specs.Prelude.{◌≡◌, ℕ, ◌+◌, ◌<◌, ◌≤◌, nat_lt, Bool, true, false, not, ◌&&◌, ◌||◌, List, length}
use Rattle.frame_net.specs.Flow.{sum_below}
use Rattle.aig_graph.specs.declared.graph.Gate.{Gate}
use Rattle.aig_graph.specs.Graph.{variable, first_latch, first_gate, latches_and_gates, latch_at, is_known}
use Rattle.aig_graph.specs.Circuits.{Netlist}
use Rattle.frame_net.specs.Passable.{is_passable}
use Rattle.frame_net.specs.Capacity.{is_observed}
use Rattle.unit_flows.specs.declared.gate_flow.GateFlow.{GateFlow}
use Rattle.unit_flows.specs.Units.{unit, nth_gate, AreTallies, IsBalanced, arrivals}

-- whether the variable is a passable gate off the marks
abbrev pub is_off : Netlist → List ℕ → (ℕ → Bool) → ℕ → Bool
is_off c held before v = is_passable c.aig held v && not (before v)

-- The marks have the form of a cut at the gate w; gates begin at `first`. If w isn't marked before,
-- no gate that it reads is. If w is, all that it reads is marked after.
pub record IsCutAt (first : ℕ) (before after : ℕ → Bool) (w : ℕ) (gate : Gate) : Type 0 where
  pub first_off : before w ≡ false → (nat_lt (variable gate.rhs1) first || not (before (variable gate.rhs1))) ≡ true
  pub second_off : before w ≡ false → (nat_lt (variable gate.rhs0) first || not (before (variable gate.rhs0))) ≡ true
  pub first_marked : before w ≡ true → after (variable gate.rhs1) ≡ true
  pub second_marked : before w ≡ true → after (variable gate.rhs0) ≡ true

-- whether the variable is a known latch or a gate off the marks, and is marked after
abbrev pub crosses : Netlist → List ℕ → (ℕ → Bool) → (ℕ → Bool) → ℕ → Bool
crosses c held before after v = (is_known (latch_at c.aig v) || is_off c held before v) && after v

-- how many variables do so
abbrev pub crossings : Netlist → List ℕ → (ℕ → Bool) → (ℕ → Bool) → ℕ
crossings c held before after = sum_below (latches_and_gates c.aig) (λ p. unit (crosses c held before after (first_latch c.aig + p)))

-- a cut that as many units cross as it has room for
pub record IsFullCut (c : Netlist) (held : List ℕ) (flows : List GateFlow) (went : List ℕ) (before after : ℕ → Bool) : Type 0 where
  pub sink : (p : ℕ) → p < latches_and_gates c.aig → is_observed c.aig c.props held (first_latch c.aig + p) ≡ true → after (first_latch c.aig + p) ≡ true
  pub gates : (k : ℕ) → k < length c.aig.gates → is_passable c.aig held (first_gate c.aig + k) ≡ true → IsCutAt (first_gate c.aig) before after (first_gate c.aig + k) (nth_gate c.aig k)
  pub full : crossings c held before after ≤ arrivals c held flows went

-- a flow in which no node gives more than it gets, by its tallies, and for which the marks are a
-- full cut
pub record HasFullCut (c : Netlist) (held : List ℕ) (flows : List GateFlow) (before after : ℕ → Bool) : Type 0 where
  pub went : List ℕ
  pub came : List ℕ
  pub tallies : AreTallies c.aig flows (length c.aig.gates) went came
  pub balanced : IsBalanced c.aig flows went came
  pub full_cut : IsFullCut c held flows went before after
