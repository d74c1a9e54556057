-- Circuits of which the gates are shared.
use Rattle.std.specs.Prelude.{ℕ, ◌≡◌, ◌≤◌, ◌+◌, List, [], length, slice_get, Some}
use Rattle.aig_graph.specs.declared.graph.Latch.{Latch}
use Rattle.aig_graph.specs.Gates.{Gates}
use Rattle.gate_sharing.specs.Copies.{Copy, copy_of}
use Rattle.gate_sharing.specs.Equal.{Equal}
use Rattle.gate_sharing.specs.Shared.{IsSharedLiteral}

-- shared gates, and the latches of all circuits, one circuit after another
pub record Circuits : Type 0 where
  pub gates : Gates
  pub latches : List Latch

-- each latch is told the value of a shared literal
abbrev pub AreTold : Gates → List Latch → Type 0
AreTold k latches = (place : ℕ) (latch : Latch) → slice_get latches place ≡ Some latch → IsSharedLiteral k latch.next

-- a latch that is told the value of what a copy has for its next literal
abbrev pub copied_latch : Copy → Latch → Latch
copied_latch c latch = record latch { next = copy_of c latch.next }

-- no literal stands for another
abbrev pub no_equal : ℕ → Equal
no_equal first = record { first = first; substitutes = [] }
