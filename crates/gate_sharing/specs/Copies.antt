-- Copies of a circuit's gates among shared ones.
use Rattle.std.specs.Prelude.{ℕ, ◌+◌, ◌-◌, ◌<◌, ◌≡◌, ◌++◌, nat_lt, Bool, List, [], ◌∷◌, length, if◌then◌else◌}
use Rattle.std.specs.List.{slice_index_or}
use Rattle.aig_graph.specs.Graph.{Graph, variable, first_gate, variables_end}
use Rattle.aig_graph.specs.Value.{signed_as}
use Rattle.aig_graph.specs.Gates.{Gates, Respects, gates_of}
use Rattle.gate_sharing.specs.Shared.{IsSharedLiteral}
use Rattle.gate_sharing.specs.Equal.{Equal, IsRight}

-- by variable of a circuit, from a first one on, a shared literal; those before it are those of
-- both
pub record Copy : Type 0 where
  pub first : ℕ
  pub literals : List ℕ

-- one more than the greatest variable that has one
abbrev pub copied_end : Copy → ℕ
copied_end c = c.first + length c.literals

-- one more shared literal, that of the next variable
abbrev pub with_literal : Copy → ℕ → Copy
with_literal c lit = record c { literals = c.literals ++ lit ∷ [] }

-- the shared literal of one of the circuit
unfoldable pub copy_of : Copy → ℕ → ℕ
copy_of c lit = if nat_lt (variable lit) c.first then lit else signed_as lit (slice_index_or c.literals (variable lit - c.first) 0)

-- the literals are those of the gates
abbrev pub AreShared : Gates → Copy → Type 0
AreShared k c = (lit : ℕ) → variable lit < copied_end c → IsSharedLiteral k (copy_of c lit)

-- the literals of the variables below n have among the shared ones the values that they have in the
-- circuit
abbrev pub CopiesValues : Copy → ℕ → (ℕ → Bool) → (ℕ → Bool) → Type 0
CopiesValues c n values own = (lit : ℕ) → variable lit < n → values (copy_of c lit) ≡ own lit

-- a copy of all gates, if the variables before them had these literals
pub record IsCopy (k : Gates) (e : Equal) (g : Graph) (leaves c : Copy) : Type 0 where
  pub first : c.first ≡ leaves.first
  pub long : copied_end c ≡ variables_end g
  pub within : AreShared k c
  pub follows : (values own : ℕ → Bool) → Respects k values → Respects (gates_of g) own → IsRight e values
      → CopiesValues leaves (first_gate g) values own → CopiesValues c (variables_end g) values own
