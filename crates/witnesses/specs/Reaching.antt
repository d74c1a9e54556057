-- When a circuit reaches a bad state.
use Rattle.std.specs.Prelude.{ℕ, ◌<◌, ◌≤◌, ◌≡◌, Bool, true, List, length, map, Some, slice_get}
use Rattle.std.specs.List.{list_all}
use Rattle.aig_graph.specs.Circuits.{Netlist}
use Rattle.aig_graph.specs.Value.{Inputs, Choice, value}
use Rattle.lane_sim.specs.declared.stimulus.InputSequence.{InputSequence}
use Rattle.lane_sim.specs.Traces.{inputs_of, choice_of}
use Rattle.witnesses.specs.Circuits.{bad_literals}

-- the values of the bad states, and of the constraints, at a step
abbrev pub bad_row : Netlist → Inputs → Choice → ℕ → List Bool
bad_row c x f t = map (value c.aig x f t) (bad_literals c.props)

abbrev pub constraint_row : Netlist → Inputs → Choice → ℕ → List Bool
constraint_row c x f t = map (value c.aig x f t) c.props.constraints

-- bad state n is reached at step t: it is 1, and each constraint has been 1 up to then
pub record ReachesBadState (c : Netlist) (x : Inputs) (f : Choice) (n t : ℕ) : Type 0 where
  pub bad : slice_get (bad_row c x f t) n ≡ Some true
  pub constrained : (u : ℕ) → u ≤ t → list_all (λ b. b) (constraint_row c x f u) ≡ true

-- it is reached under an input sequence
abbrev pub ReachesIn : Netlist → InputSequence → ℕ → ℕ → Type 0
ReachesIn c run n t = ReachesBadState c (inputs_of run) (choice_of run) n t

-- no step of the sequence reaches it
abbrev pub NeverReached : Netlist → InputSequence → ℕ → Type 0
NeverReached c run n = (t : ℕ) → t < length run.steps → ReachesIn c run n t → ⊥

-- the first step of the sequence that reaches it
pub record IsFirstReached (c : Netlist) (run : InputSequence) (n t : ℕ) : Type 0 where
  pub within : t < length run.steps
  pub reaches : ReachesIn c run n t
  pub before : (u : ℕ) → u < t → ReachesIn c run n u → ⊥
