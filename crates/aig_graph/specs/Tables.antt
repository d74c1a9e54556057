-- Tables by variable, from a first variable on: entry k is that of variable first + k.
use Rattle.std.specs.Prelude.{ℕ, List, map}
use Rattle.std.specs.List.{range_with_len}

-- what f gives each of the n variables from first on
unfoldable pub table : {A : Type 0} → ℕ → ℕ → (ℕ → A) → List A
table first n f = map f (range_with_len first n)
