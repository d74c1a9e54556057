-- The gates of a circuit, once more among those of a larger graph.
use Rattle.std.specs.Prelude.{ℕ, ◌*◌, ◌<◌, ◌≡◌, ◌↔◌, Bool, true, List, length, All}
use Rattle.std.specs.List.{slice_index_or}
use Rattle.aig_graph.specs.Circuits.{AreLiteralsOf}
use Rattle.aig_graph.specs.Graph.{Graph, IsLiteralOf, variable, variables_end}
use Rattle.aig_graph.specs.Value.{signed_as, value_within}
use Rattle.state_maps.specs.States.{Digits, State}

-- what stands for a literal, by a list of literals by variable
abbrev pub substitute : List ℕ → ℕ → ℕ
substitute literals lit = signed_as lit (slice_index_or literals (variable lit) 0)

-- in a step of g the literals have the values that the variables, from 0 on, have by `own`
abbrev pub HaveValues : Graph → List ℕ → Digits → State → (ℕ → Bool) → Type 0
HaveValues g literals z u own = (v : ℕ) → v < length literals → value_within g z u (slice_index_or literals v 0) ≡ own (2 * v)

-- Literals of h stand for the first n variables of c. Let those of the constant, the inputs and the
-- latches have in g the values that these have in a step of c. Then all have.
pub record StandTo (g c : Graph) (leaves : List ℕ) (n : ℕ) (h : Graph) (literals : List ℕ) : Type 0 where
  pub many : length literals ≡ n
  pub within : AreLiteralsOf h literals
  pub values : (z x : Digits) (u s : State) → HaveValues g leaves z u (value_within c x s) → HaveValues h literals z u (value_within c x s)

-- for all variables
abbrev pub IsInstance : Graph → Graph → List ℕ → Graph → List ℕ → Type 0
IsInstance g c leaves h literals = StandTo g c leaves (variables_end c) h literals

-- the literal says that all of these are 1
pub record AreAll (g : Graph) (lits : List ℕ) (lit : ℕ) : Type 0 where
  pub within : IsLiteralOf g lit
  pub is : (z : Digits) (u : State) → (value_within g z u lit ≡ true) ↔ All (λ l. value_within g z u l ≡ true) lits
