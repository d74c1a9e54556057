-- Marks by place, and which latches and gates have a latch after a move.
use Rattle.std.proofs.Common.{ℕ, ◌+◌, ◌-◌, ◌≤◌, ◌≡◌, List, Bool, true, false, ◌&&◌, ◌||◌, not, Option, Some, slice_get, get_or, length, refl, arith, ap, ◌∙◌}
use Rattle.std.proofs.lemmas.Bool.{le-leb}
use Rattle.aig_graph.proofs.KindLaws.{latch_at-first_latch, latch_at-gates}
use Rattle.aig_graph.specs.Graph.{Graph, first_latch, is_free, is_free_latch, is_known, latch_at}
use Rattle.aig_graph.specs.declared.graph.Latch.{Latch}
use Rattle.rebuild.specs.Entries.{latched_by}
use Rattle.aig_graph.specs.Marking.{mark_at}

-- the mark of the variable at a place
pub mark_at-place : (first : ℕ) (marks : List Bool) (k : ℕ) → mark_at first marks (first + k) ≡ get_or marks k false
unfolding mark_at
mark_at-place first marks k =
    let place : first + k - first ≡ k = omega arith in
    ap (λ (b : Bool). b && get_or marks (first + k - first) false) (le-leb first (first + k) (omega arith)) ∙ ap (λ (n : ℕ). get_or marks n false) place

free-or : (f x m : Bool) → (f || ((not f || x) && m)) ≡ (f || m)
free-or true x m = refl
free-or false x m = refl

-- a latch has one after the move if it is free or marked
pub latched_by-latch : (g : Graph) (inside marks : List Bool) (k : ℕ) (latch : Latch) → slice_get g.latches k ≡ Some latch
    → latched_by g inside marks (first_latch g + k) ≡ (is_free latch || get_or marks k false)
latched_by-latch g inside marks k latch there =
    let v : ℕ = first_latch g + k in
    let here : latch_at g v ≡ Some latch = latch_at-first_latch g k ∙ there in
    ap (λ (o : Option Latch). is_free_latch o || ((is_known o || mark_at (first_latch g) inside v) && mark_at (first_latch g) marks v)) here
    ∙ free-or (is_free latch) (mark_at (first_latch g) inside v) (mark_at (first_latch g) marks v)
    ∙ ap (λ (b : Bool). is_free latch || b) (mark_at-place (first_latch g) marks k)

-- a gate has one if it is in the set and marked
pub latched_by-gate : (g : Graph) (inside marks : List Bool) (k : ℕ) → length g.latches ≤ k
    → latched_by g inside marks (first_latch g + k) ≡ (get_or inside k false && get_or marks k false)
latched_by-gate g inside marks k past =
    let v : ℕ = first_latch g + k in
    ap (λ (o : Option Latch). is_free_latch o || ((is_known o || mark_at (first_latch g) inside v) && mark_at (first_latch g) marks v)) (latch_at-gates g v (omega arith))
    ∙ ap (λ (b : Bool). b && mark_at (first_latch g) marks v) (mark_at-place (first_latch g) inside k)
    ∙ ap (λ (b : Bool). get_or inside k false && b) (mark_at-place (first_latch g) marks k)
