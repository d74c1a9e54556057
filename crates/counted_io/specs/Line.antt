-- Lines of numbers, and lines of numbered things.
use Rattle.std.specs.Prelude.{ℕ, List, [], ◌∷◌, ◌++◌, decimal}
use Rattle.std.specs.List.{flat_map, enumerate_from}

-- a space and a number
unfoldable pub spaced : ℕ → List ℕ
spaced n = 32 ∷ decimal n

-- numbers with a space between, and a newline
unfoldable pub line : List ℕ → List ℕ
line [] = 10 ∷ []
line (n ∷ ns) = decimal n ++ (flat_map spaced ns ++ 10 ∷ [])

-- the lines of things that are numbered from a first number on
abbrev pub numbered_lines : {X : Type 0} → (ℕ → X → List ℕ) → ℕ → List X → List ℕ
numbered_lines line_of first xs = flat_map (λ e. line_of e.0 e.1) (enumerate_from first xs)
