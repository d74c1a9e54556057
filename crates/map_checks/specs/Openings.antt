-- What a look at step 0 finds.
use Rattle.std.specs.Prelude.{ℕ, length}
use Rattle.aig_graph.specs.Graph.{Graph}
use Rattle.map_checks.specs.declared.openings.Start.{Start}
use Rattle.map_checks.specs.declared.openings.Start.TheVariants.{Kept, Differs}
use Rattle.map_checks.specs.Starts.{AreStarts}

-- a look at step 0: all latches start as their literals say, or one doesn't
abbrev pub IsLookAtStart : Graph → Graph → (ℕ → ℕ) → Start → Type 0
IsLookAtStart c d lits (Kept kept) = AreStarts c d lits (length d.latches) kept
IsLookAtStart c d lits (Differs place) = Unit {0}
