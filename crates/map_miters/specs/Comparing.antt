-- Literals that say something of the other literals of a graph.
use Rattle.std.specs.Prelude.{ℕ, ◌<◌, ◌≡◌, ◌↔◌, true, false, List, length}
use Rattle.std.specs.List.{slice_index_or}
use Rattle.aig_graph.specs.Circuits.{AreLiteralsOf}
use Rattle.aig_graph.specs.Graph.{Graph, IsLiteralOf}
use Rattle.aig_graph.specs.Value.{value_within}
use Rattle.state_maps.specs.RetimedStates.{agrees}
use Rattle.state_maps.specs.States.{Digits, State}

-- the literal is 1 exactly in the steps in which this holds
pub record SaysThat (h : Graph) (lit : ℕ) (holds : Digits → State → Type 0) : Type 0 where
  pub within : IsLiteralOf h lit
  pub is : (z : Digits) (u : State) → (value_within h z u lit ≡ true) ↔ holds z u

-- it is 0 exactly in those
pub record FailsBut (h : Graph) (lit : ℕ) (holds : Digits → State → Type 0) : Type 0 where
  pub within : IsLiteralOf h lit
  pub is : (z : Digits) (u : State) → (value_within h z u lit ≡ false) ↔ holds z u

-- the literals of both lists have one value each in a step
abbrev pub AreEqualIn : Graph → List ℕ → List ℕ → Digits → State → Type 0
AreEqualIn h a b z u = (k : ℕ) → k < length a → value_within h z u (slice_index_or a k 0) ≡ value_within h z u (slice_index_or b k 0)

-- of the first n pairs of literals of g what says in h that they are equal
pub record AreEqualities (g h : Graph) (a b : List ℕ) (n : ℕ) (lits : List ℕ) : Type 0 where
  pub many : length lits ≡ n
  pub within : AreLiteralsOf h lits
  pub each : (z : Digits) (u : State) (k : ℕ) → k < n
      → value_within h z u (slice_index_or lits k 0) ≡ agrees (value_within g z u (slice_index_or a k 0)) (value_within g z u (slice_index_or b k 0))
