-- The variables of names.
use Rattle.std.proofs.Common.{ℕ, ◌+◌, ◌<◌, ◌≤◌, ◌≡◌, List, sym, subst, arith}
use Rattle.std.specs.Prelude.{All}
use Rattle.aig_graph.specs.declared.literal.TheConstants.{MAX_VARIABLES}
use Rattle.aig_graph.specs.declared.properties.Symbol.{Symbol}
use Rattle.aig_graph.specs.Circuits.{AreNamesBelow}

-- names of places below n, by variables from a first one on
pub in_range : (n first : ℕ) (xs ys : List Symbol) → xs ≡ ys → first + n ≤ MAX_VARIABLES → AreNamesBelow n ys → All (λ s. first + s.position < MAX_VARIABLES) xs
in_range n first xs ys same small names =
    subst (λ (zs : List Symbol). All (λ s. first + s.position < MAX_VARIABLES) zs) (sym same) (λ k d h. omega (arith, small, names.below k d h))
