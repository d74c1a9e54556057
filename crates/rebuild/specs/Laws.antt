-- The value at step 0 of a passable gate rests on no input and no choice for the free latches.
use Rattle.std.specs.Prelude.{ℕ, ◌*◌, ◌≡◌, List}
use Rattle.aig_graph.specs.Graph.{Graph}
use Rattle.aig_graph.specs.Closed.{IsPassable}
use Rattle.aig_graph.specs.Value.{Inputs, Choice, value, reset_to}
use Rattle.rebuild.specs.Starting.{start_reset}

-- the start reset of a passable gate is its value at step 0, for all inputs and choices
abbrev pub StartLaw : Graph → List ℕ → Type 0
StartLaw g held = (v : ℕ) (x : Inputs) (f : Choice) → IsPassable g held v → start_reset g held v ≡ reset_to (value g x f 0 (2 * v))
