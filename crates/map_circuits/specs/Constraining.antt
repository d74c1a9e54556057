-- What constraints of a map say.
use Rattle.std.specs.Prelude.{ℕ, ◌≡◌, ◌<◌, ◌==◌, ◌⊎◌, ◌↔◌, true, false, List, All, if◌then◌else◌}
use Rattle.std.specs.List.{slice_index_or}
use Rattle.aig_graph.specs.Circuits.{AreLiteralsOf}
use Rattle.aig_graph.specs.Graph.{Graph, variable}
use Rattle.aig_graph.specs.Value.{value_within}
use Rattle.state_maps.specs.States.{State}
use Rattle.state_maps.specs.MapCircuits.{image}
use Rattle.map_circuits.specs.Following.{IsCovered, literal_at}
use Rattle.map_circuits.specs.Growing.{Extends}

-- the literals are 1 in the state
abbrev pub AreOne : Graph → List ℕ → State → Type 0
AreOne g lits s = All (λ b. b ≡ true) (image g s lits)

-- a literal of the constant, or of a latch that has a function
abbrev pub IsSubstitute : ℕ → List ℕ → ℕ → Type 0
IsSubstitute first functions lit = (variable lit ≡ 0) ⊎ IsCovered first functions (variable lit)

-- the function of such a literal
abbrev pub substitute_function : ℕ → List ℕ → ℕ → ℕ
substitute_function first functions lit = if variable lit == 0 then lit else literal_at first functions lit

-- two literals are equal in the state
abbrev pub AreEqual : Graph → State → ℕ → ℕ → Type 0
AreEqual g s a b = value_within g s (λ j. false) a ≡ value_within g s (λ j. false) b

-- the literals say what those before said, and that two literals are equal
pub record AddsEquality (g h : Graph) (old new : List ℕ) (a b : ℕ) : Type 0 where
  pub extends : Extends g h
  pub within : AreLiteralsOf g old → AreLiteralsOf h new
  pub says : AreLiteralsOf g old → (s : State) → AreOne h new s ↔ (AreOne g old s × AreEqual g s a b)

-- each of the first n functions is equal to that of what stands for its latch
abbrev pub SubstitutesBelow : Graph → ℕ → List ℕ → List ℕ → ℕ → State → Type 0
SubstitutesBelow g first functions substitutes n s = (j : ℕ) → j < n → AreEqual g s (slice_index_or functions j 0) (substitute_function first functions (slice_index_or substitutes j 0))

-- the literals say what those before said, and that for the first n latches
pub record AddsSubstitutes (g : Graph) (first : ℕ) (functions substitutes : List ℕ) (n : ℕ) (h : Graph) (old new : List ℕ) : Type 0 where
  pub extends : Extends g h
  pub within : AreLiteralsOf h new
  pub says : (s : State) → AreOne h new s ↔ (AreOne g old s × SubstitutesBelow g first functions substitutes n s)
