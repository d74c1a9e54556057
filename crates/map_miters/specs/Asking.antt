-- What is asked, in a graph whose inputs are those of a circuit and what its latches hold.
use Rattle.std.specs.Prelude.{ℕ, ◌+◌, ◌≡◌, true, length}
use Rattle.aig_graph.specs.Circuits.{AreLiteralsOf, Netlist}
use Rattle.aig_graph.specs.Graph.{Graph, IsLiteralOf}
use Rattle.aig_graph.specs.Value.{value_within}
use Rattle.state_maps.specs.MapCircuits.{mapped}
use Rattle.state_maps.specs.States.{Digits, State, after_step}
use Rattle.map_miters.specs.declared.leaves.Leaves.{Leaves}
use Rattle.map_miters.specs.declared.questions.Compared.{Compared}
use Rattle.map_miters.specs.declared.questions.Sides.{Sides}
use Rattle.map_miters.specs.Comparing.{AreEqualIn, FailsBut}
use Rattle.map_miters.specs.Holding.{Held, HoldAs, IsImage, IsStep}
use Rattle.map_miters.specs.Questions.{Begins}

-- the digits of the circuit's inputs, and what its latches hold, by the inputs after those
abbrev pub asked_digits : Held
asked_digits = λ z u. z

-- what the latches of the circuit hold: the inputs after its own
abbrev pub asked_state : Graph → Held
asked_state c = λ z u. λ j. z (c.inputs + j)

-- the literals of both
pub record AreLeaves (h c : Graph) (leaves : Leaves) : Type 0 where
  pub wide : length leaves.inputs.items ≡ c.inputs
  pub inputs : HoldAs h leaves.inputs.items asked_digits
  pub long : length leaves.latches.items ≡ length c.latches
  pub latches : HoldAs h leaves.latches.items (asked_state c)

-- the literal of the first question
abbrev pub IsResetFailure : Graph → Netlist → Netlist → Netlist → ℕ → Type 0
IsResetFailure h c d m lit = FailsBut h lit (λ z u. Begins c d m (asked_state c.aig z u))

-- a step of c, the map before and after it, and a step of d from what the map gives
pub record AreSides (h : Graph) (c d m : Netlist) (sides : Sides) : Type 0 where
  pub before : IsStep h c asked_digits (asked_state c.aig) sides.before
  pub image : IsImage h m (asked_state c.aig) sides.image
  pub later : IsImage h m (λ z u. after_step c.aig z (asked_state c.aig z u)) sides.later
  pub after : IsStep h d asked_digits (λ z u. mapped m (asked_state c.aig z u)) sides.after

-- what is compared are literals of the graph, as many on both sides
pub record AreComparable (h : Graph) (sides : Sides) : Type 0 where
  pub image : IsLiteralOf h sides.image.kept
  pub later : IsLiteralOf h sides.later.kept
  pub nexts_long : length sides.later.outputs.items ≡ length sides.after.nexts.items
  pub props_long : length sides.after.props.items ≡ length sides.before.props.items
  pub outputs : AreLiteralsOf h sides.later.outputs.items
  pub nexts : AreLiteralsOf h sides.after.nexts.items
  pub props : AreLiteralsOf h sides.after.props.items
  pub first_props : AreLiteralsOf h sides.before.props.items

-- if the map's constraints are 1 before the step, the one and the other holds
abbrev pub WhereKept : Graph → Sides → (Digits → State → Type 0) → Digits → State → Type 0
WhereKept g sides holds z u = value_within g z u sides.image.kept ≡ true → holds z u

-- literals of h that say what fails of the sides among those of g
pub record AreCompared (g h : Graph) (sides : Sides) (c : Compared) : Type 0 where
  pub keep : FailsBut h c.keep (WhereKept g sides (λ z u. value_within g z u sides.later.kept ≡ true))
  pub next : FailsBut h c.next (WhereKept g sides (AreEqualIn g sides.later.outputs.items sides.after.nexts.items))
  pub read : FailsBut h c.read (WhereKept g sides (AreEqualIn g sides.after.props.items sides.before.props.items))
