-- What the latches of circuits with shared gates are told.
use Rattle.std.proofs.Common.{◌⊎◌, inl, inr, ℕ, ◌+◌, ◌<◌, ◌≡◌, suc, zero, List, [], ◌∷◌, ◌++◌, length, map, slice_get, Some, arith, ap, sym, ◌∙◌, subst}
use Rattle.aig_graph.specs.declared.graph.Latch.{Latch}
use Rattle.aig_graph.specs.Gates.{Gates, Grows}
use Rattle.aig_graph.specs.Graph.{Graph, IsGraph, variable, variables_end}
use Rattle.aig_graph.proofs.ListLaws.{from_map}
use Rattle.gate_sharing.specs.Shared.{IsSharedLiteral}
use Rattle.gate_sharing.specs.Circuits.{AreTold, copied_latch}
use Rattle.gate_sharing.specs.Copies.{AreShared, Copy, copied_end}
use Rattle.gate_sharing.proofs.SharedLaws.{shared-more}

-- what stands in one list after another stands in the first, or at its place in the second
pub from_append : {A : Type 0} (xs ys : List A) (k : ℕ) (y : A) → slice_get (xs ++ ys) k ≡ Some y → (slice_get xs k ≡ Some y) ⊎ ((j : ℕ) × (k ≡ length xs + j) × (slice_get ys j ≡ Some y))
from_append [] ys k y e = inr (k, omega arith, e)
from_append (x ∷ xs) ys zero y e = inl e
from_append (x ∷ xs) ys (suc k) y e = elim (from_append xs ys k y e) [
  | inl before ↦ inl before
  | inr past ↦ inr (past.0, omega (arith, past.1), past.2)
]

-- the latches of one more circuit are told shared literals too
pub told-more : (k l : Gates) (old new : List Latch) (c : Copy) (g : Graph) → Grows k l → AreTold k old → AreShared l c → IsGraph g → copied_end c ≡ variables_end g → new ≡ old ++ map (copied_latch c) g.latches → AreTold l new
told-more k l old new c g grows told within valid long is place latch there =
    elim (from_append old (map (copied_latch c) g.latches) place latch (ap (λ (xs : List Latch). slice_get xs place) (sym is) ∙ there)) [
      | inl before ↦ shared-more k l grows latch.next (told place latch before)
      | inr past ↦ (
          let from = from_map (copied_latch c) g.latches past.0 latch past.2 in
          let inside : variable from.0.next < copied_end c = omega (arith, valid.latches past.0 from.0 from.1, long) in
          subst (λ (n : ℕ). IsSharedLiteral l n) (sym (ap (λ (x : Latch). x.next) from.2)) (within from.0.next inside))
    ]
