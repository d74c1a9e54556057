-- The functions of latches and of gates that latches move over.
use Rattle.std.specs.Prelude.{ℕ, ◌+◌, ◌-◌, ◌*◌, ◌<◌, ◌≤◌, ◌≡◌, false, List, length}
use Rattle.std.specs.List.{slice_index_or}
use Rattle.aig_graph.specs.Closed.{IsLatchOrIn}
use Rattle.aig_graph.specs.Graph.{Graph, IsLiteralOf, variable, first_latch, variables_end}
use Rattle.aig_graph.specs.Value.{signed_as, value_within}
use Rattle.state_maps.specs.States.{State}
use Rattle.state_maps.specs.MapCircuits.{image}

-- the state whose latches hold what these literals of a circuit without latches are
abbrev pub state_of : Graph → List ℕ → State → State
state_of g lits s = λ j. slice_index_or (image g s lits) j false

-- the entry of a variable, from the first latch on
abbrev pub entry_of : ℕ → List ℕ → ℕ → ℕ
entry_of first literals v = slice_index_or literals (v - first) 0

-- the variable has an entry
abbrev pub IsCovered : ℕ → List ℕ → ℕ → Type 0
IsCovered first literals v = (first ≤ v) × (v - first < length literals)

-- what stands for a literal
abbrev pub literal_at : ℕ → List ℕ → ℕ → ℕ
literal_at first literals lit = signed_as lit (entry_of first literals (variable lit))

-- the entries of latches, and of gates of the set, below n are literals of h
abbrev pub AreWithin : Graph → Graph → List ℕ → ℕ → List ℕ → Type 0
AreWithin h c set n literals = (v : ℕ) → v < n → IsLatchOrIn c set v → IsLiteralOf h (entry_of (first_latch c) literals v)

-- There is an entry for each latch and gate of c; a latch has its function. Those of latches and of
-- gates of the set below n are literals of h. They have the values of these, if c's latches hold
-- what the functions are in g.
pub record Follows (g : Graph) (functions : List ℕ) (c : Graph) (set : List ℕ) (n : ℕ) (h : Graph) (literals : List ℕ) : Type 0 where
  pub long : first_latch c + length literals ≡ variables_end c
  pub latches : (j : ℕ) → j < length c.latches → slice_index_or literals j 0 ≡ slice_index_or functions j 0
  pub within : AreWithin h c set n literals
  pub values : (s : State) (v : ℕ) → v < n → IsLatchOrIn c set v
      → value_within h s (λ j. false) (entry_of (first_latch c) literals v) ≡ value_within c (λ i. false) (state_of g functions s) (2 * v)
