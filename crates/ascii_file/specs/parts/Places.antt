-- The place of a variable.
use Rattle.std.specs.Prelude.{ℕ, ◌-◌, nat_lt, nat_eq, Option, Some, get_or, if◌then◌else◌}
use Rattle.indexmap.specs.IndexMap.{get}
use Rattle.ascii_file.specs.declared.parts.places.Places.{Places}

-- what the table says, by one more than the place, or else the hashed entries
abbrev pub near_or : ℕ → Option ℕ → Option ℕ
near_or next far = if nat_lt 0 next then Some (next - 1) else far

-- the place that a variable was given
abbrev pub place_of : Places → ℕ → Option ℕ
place_of places v = near_or (get_or places.near.items v 0) (get nat_eq places.far v)
