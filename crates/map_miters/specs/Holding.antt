-- Lists of literals of a graph, by what they hold in each step of it.
use Rattle.std.specs.Prelude.{ℕ, ◌<◌, ◌≡◌, ◌↔◌, Bool, true, false, List, length, map, slice_get, Option, Some, None}
use Rattle.std.specs.List.{slice_index_or}
use Rattle.aig_graph.specs.declared.graph.Latch.{Latch}
use Rattle.aig_graph.specs.Circuits.{AreLiteralsOf, Netlist}
use Rattle.aig_graph.specs.Graph.{Graph, IsLiteralOf}
use Rattle.aig_graph.specs.Streams.{property_literals}
use Rattle.aig_graph.specs.Value.{opening, opening_literal, value_within}
use Rattle.state_maps.specs.States.{Digits, State, after_step}
use Rattle.state_maps.specs.MapCircuits.{is_kept, mapped}
use Rattle.map_miters.specs.declared.images.Image.{Image}
use Rattle.map_miters.specs.declared.steps.Step.{Step}

-- what a list of digits or a state is, in each step of a graph
abbrev pub Held : Type 0
Held = Digits → State → ℕ → Bool

-- the literals hold it, entry by entry
pub record HoldAs (h : Graph) (lits : List ℕ) (held : Held) : Type 0 where
  pub within : AreLiteralsOf h lits
  pub values : (z : Digits) (u : State) (k : ℕ) → k < length lits → value_within h z u (slice_index_or lits k 0) ≡ held z u k

-- what the latches hold at step 0, of which a free one holds what it holds in s
abbrev pub reset_at : Bool → Option Latch → Bool
reset_at b None = false
reset_at b (Some latch) = opening latch.reset b

-- what the latches of g hold at step 0; a free one holds what it holds in s
abbrev pub reset_state : Graph → State → State
reset_state g s = λ j. reset_at (s j) (slice_get g.latches j)

-- the resets of latches, whose own literals are these
pub record AreResets (latches : List Latch) (own lits : List ℕ) : Type 0 where
  pub many : length lits ≡ length latches
  pub each : (j : ℕ) (latch : Latch) → slice_get latches j ≡ Some latch → slice_index_or lits j 0 ≡ opening_literal latch.reset (slice_index_or own j 0)

-- the values of a circuit's properties in a step, by their places
abbrev pub read_in : Netlist → Digits → State → ℕ → Bool
read_in c x s = λ k. slice_index_or (map (value_within c.aig x s) (property_literals c.props)) k false

-- what a map gives for a state: whether its constraints are 1, and its outputs
pub record IsImage (h : Graph) (m : Netlist) (state : Held) (image : Image) : Type 0 where
  pub within : IsLiteralOf h image.kept
  pub kept : (z : Digits) (u : State) → (value_within h z u image.kept ≡ true) ↔ is_kept m (state z u)
  pub many : length image.outputs.items ≡ length m.props.outputs
  pub outputs : HoldAs h image.outputs.items (λ z u. mapped m (state z u))

-- a circuit's step from a state: what latches hold after it, and what properties are in it
pub record IsStep (h : Graph) (c : Netlist) (digits state : Held) (step : Step) : Type 0 where
  pub many_nexts : length step.nexts.items ≡ length c.aig.latches
  pub nexts : HoldAs h step.nexts.items (λ z u. after_step c.aig (digits z u) (state z u))
  pub many_props : length step.props.items ≡ length (property_literals c.props)
  pub props : HoldAs h step.props.items (λ z u. read_in c (digits z u) (state z u))
