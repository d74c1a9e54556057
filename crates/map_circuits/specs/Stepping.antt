-- What the latches of a circuit hold, after a move or a pass, by what those before hold.
use Rattle.std.specs.Prelude.{ℕ, ◌+◌, ◌<◌, ◌≡◌, Bool, List, length, slice_get, All, Some}
use Rattle.std.specs.List.{slice_index_or}
use Rattle.aig_graph.specs.Counting.{places}
use Rattle.aig_graph.specs.Graph.{Graph, IsLiteralOf, first_gate, first_latch, variables_end}
use Rattle.aig_graph.specs.Move.{Move}
use Rattle.rebuild.specs.Moved.{is_latched, moved_graph}
use Rattle.state_maps.specs.States.{State}
use Rattle.state_maps.specs.CleanedStates.{trimmed_state}
use Rattle.state_maps.specs.MovedStates.{moved_state}
use Rattle.map_circuits.specs.Following.{entry_of, state_of}

-- the functions of the latches after a move: a latch that stays has its own
pub record AreMoved (g : Graph) (functions : List ℕ) (m : Move) (h : Graph) (new : List ℕ) : Type 0 where
  pub within : All (λ lit. IsLiteralOf h lit) new
  pub many : length new ≡ length (moved_graph m).latches
  pub own : (k v : ℕ) → slice_get (places (is_latched m) (variables_end m.circuit.aig)) k ≡ Some v → v < first_gate m.circuit.aig
      → slice_index_or new k 0 ≡ entry_of (first_latch m.circuit.aig) functions v
  pub states : (s : State) → state_of h new s ≡ moved_state m (state_of g functions s)

-- after a pass that leaves what is reached, each latch that stays has its own function
pub record ArePassed (g : Graph) (functions : List ℕ) (c : Graph) (reached : ℕ → Bool) (new : List ℕ) : Type 0 where
  pub within : All (λ lit. IsLiteralOf g lit) new
  pub many : length new ≡ length (places (λ j. reached (first_latch c + j)) (length c.latches))
  pub own : (k j : ℕ) → slice_get (places (λ j. reached (first_latch c + j)) (length c.latches)) k ≡ Some j → slice_index_or new k 0 ≡ slice_index_or functions j 0
  pub states : (s : State) → state_of g new s ≡ trimmed_state c reached (state_of g functions s)
