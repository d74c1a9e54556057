-- Marks by variable, from a first variable on.
use Rattle.std.specs.Prelude.{ℕ, ◌+◌, ◌-◌, ◌<◌, ◌≡◌, ◌==◌, ◌||◌, ◌&&◌, nat_le, Bool, false, List, length}
use Rattle.std.specs.List.{list_any, slice_index_or}

-- whether the variable is in the list
abbrev pub has : List ℕ → ℕ → Bool
has s v = list_any (λ w. w == v) s

-- the variable's mark; it isn't marked without an entry
unfoldable pub mark_at : ℕ → List Bool → ℕ → Bool
mark_at first marks v = nat_le first v && slice_index_or marks (v - first) false

-- new has the marks of old, and those of the variables that pass the test
pub record Marks (first : ℕ) (old new : List Bool) (p : ℕ → Bool) : Type 0 where
  pub as_long : length new ≡ length old
  pub each : (k : ℕ) → k < length old → slice_index_or new k false ≡ (slice_index_or old k false || p (first + k))

-- the marks are those of the variables that pass the test
abbrev pub AreMarks : ℕ → List Bool → (ℕ → Bool) → Type 0
AreMarks first marks p = (k : ℕ) → k < length marks → slice_index_or marks k false ≡ p (first + k)

-- the marks are those of the variables that pass the test; none before the first entry passes
pub record AreAllMarks (first : ℕ) (marks : List Bool) (p : ℕ → Bool) : Type 0 where
  pub before : (v : ℕ) → v < first → p v ≡ false
  pub each : AreMarks first marks p
