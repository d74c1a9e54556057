-- The first latch of each next literal and known reset.
use Rattle.std.specs.Prelude.{ℕ, ◌+◌, ◌*◌, ◌++◌, ◌≡◌, nat_lt, false, List, [], ◌∷◌, slice_get, Option, Some, None, if◌then◌else◌}
use Rattle.std.specs.Map.{lookup}
use Rattle.aig_graph.specs.declared.graph.Latch.{Latch}
use Rattle.aig_graph.specs.Graph.{Graph, first_latch, is_free}
use Rattle.cleaned_circuits.specs.Latches.{same_latch, is_duplicate, first_where}

-- the literal of the first latch before n that this one duplicates
unfoldable pub first_literal : Graph → List ℕ → Latch → ℕ → Option ℕ
first_literal g held latch n =
    let first = first_where (λ i. is_duplicate g held latch i (slice_get g.latches i)) n in
    if nat_lt first n then Some (2 * (first_latch g + first)) else None

-- the entries have the literals of the first latches among the first n whose reset is known
pub record AreFirsts (g : Graph) (held : List ℕ) (n : ℕ) (entries : List (Latch × ℕ)) : Type 0 where
  pub each : (latch : Latch) → is_free latch ≡ false → lookup (same_latch latch) entries ≡ first_literal g held latch n

-- the entries, and this latch if it duplicates none
abbrev pub entries_after : List (Latch × ℕ) → ℕ → Latch → Option ℕ → List (Latch × ℕ)
entries_after entries own latch None = entries ++ (latch, own) ∷ []
entries_after entries own latch (Some literal) = entries
