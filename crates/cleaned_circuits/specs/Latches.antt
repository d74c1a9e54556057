-- What stands for a latch in a pass. The list of held latches has their positions.
use Rattle.std.specs.Prelude.{ℕ, ◌+◌, ◌-◌, ◌*◌, ◌==◌, ◌||◌, ◌&&◌, nat_lt, not, Bool, true, false, List, slice_get, Option, Some, None, if◌then◌else◌}
use Rattle.std.specs.List.{slice_index_or}
use Rattle.aig_graph.specs.declared.graph.Latch.{Latch}
use Rattle.aig_graph.specs.declared.graph.Reset.{Reset}
use Rattle.aig_graph.specs.declared.graph.Reset.TheVariants.{Zero, One, Free}
use Rattle.aig_graph.specs.Graph.{Graph, first_latch, is_free}
use Rattle.aig_graph.specs.Marking.{has}
use Rattle.aig_graph.specs.Counting.{places}

-- the constant of a known reset
abbrev pub constant_of : Reset → ℕ
constant_of Zero = 0
constant_of One = 1
constant_of Free = 0

-- whether latch j is known, isn't held, and reads itself or the constant of its reset
abbrev pub is_constant_latch : Graph → List ℕ → ℕ → Latch → Bool
is_constant_latch g held j latch = not (is_free latch) && not (has held j) && (latch.next == 2 * (first_latch g + j) || latch.next == constant_of latch.reset)

-- whether two resets are one
abbrev pub same_reset : Reset → Reset → Bool
same_reset r s = elim r [
  | Zero ↦ elim s [ Zero ↦ true | One ↦ false | Free ↦ false ]
  | One ↦ elim s [ Zero ↦ false | One ↦ true | Free ↦ false ]
  | Free ↦ elim s [ Zero ↦ false | One ↦ false | Free ↦ true ]
]

abbrev pub same_latch : Latch → Latch → Bool
same_latch latch other = latch.next == other.next && same_reset latch.reset other.reset

-- whether latch i isn't constant, and has the next literal and the reset of another
abbrev pub is_duplicate : Graph → List ℕ → Latch → ℕ → Option Latch → Bool
is_duplicate g held latch i None = false
is_duplicate g held latch i (Some other) = not (is_constant_latch g held i other) && same_latch latch other

-- the first number below n that passes, else n
unfoldable pub first_where : (ℕ → Bool) → ℕ → ℕ
first_where p n = slice_index_or (places p n) 0 n

-- the first latch before j that latch j duplicates, else j
abbrev pub first_duplicate : Graph → List ℕ → ℕ → Latch → ℕ
first_duplicate g held j latch = first_where (λ i. is_duplicate g held latch i (slice_get g.latches i)) j

-- The substitute of latch j: its constant if it is constant, its own literal if it is free or held.
-- Otherwise it is that of the first latch that it duplicates.
abbrev pub latch_substitute : Graph → List ℕ → ℕ → Option Latch → ℕ
latch_substitute g held j None = 2 * (first_latch g + j)
latch_substitute g held j (Some latch) =
    if is_constant_latch g held j latch
    then constant_of latch.reset
    else (if is_free latch || has held j then 2 * (first_latch g + j) else 2 * (first_latch g + first_duplicate g held j latch))

-- the literal that stands for a variable that is no gate
unfoldable pub leaf_substitute : Graph → List ℕ → ℕ → ℕ
leaf_substitute g held v = if nat_lt v (first_latch g) then 2 * v else latch_substitute g held (v - first_latch g) (slice_get g.latches (v - first_latch g))
