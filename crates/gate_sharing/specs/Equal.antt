-- Literals that stand for others.
use Rattle.std.specs.Prelude.{ℕ, ◌+◌, ◌-◌, ◌*◌, ◌≡◌, nat_lt, Bool, List, slice_get, Option, Some, None, if◌then◌else◌}
use Rattle.aig_graph.specs.Graph.{variable}
use Rattle.aig_graph.specs.Value.{signed_as}
use Rattle.aig_graph.specs.Gates.{IsNegated}

-- by variable, from a first one on, a literal that stands for it; those past the end stand for
-- themselves
pub record Equal : Type 0 where
  pub first : ℕ
  pub substitutes : List ℕ

abbrev pub signed_substitute_or_own : ℕ → Option ℕ → ℕ
signed_substitute_or_own lit None = lit
signed_substitute_or_own lit (Some substitute) = signed_as lit substitute

-- what stands for a literal
unfoldable pub standing_for : Equal → ℕ → ℕ
standing_for e lit = if nat_lt (variable lit) e.first then lit else signed_substitute_or_own lit (slice_get e.substitutes (variable lit - e.first))

-- what stands for a variable has its value
abbrev pub IsRight : Equal → (ℕ → Bool) → Type 0
IsRight e values = (place substitute : ℕ) → slice_get e.substitutes place ≡ Some substitute → values substitute ≡ values (2 * (e.first + place))

-- what was right stays right
abbrev pub StaysRight : Equal → Equal → Type 0
StaysRight e f = (values : ℕ → Bool) → IsNegated values → IsRight e values → IsRight f values
