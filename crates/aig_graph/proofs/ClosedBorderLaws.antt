-- The border of a closed set.
use Rattle.std.proofs.Common.{ℕ, ◌≡◌, ◌||◌, ◌&&◌, inl, inr, true, is_some, List, Bool, sym, ap, ◌∙◌}
use Rattle.std.proofs.lemmas.Bool.{cases_Bool, and_from, and_right}
use Rattle.aig_graph.specs.Graph.{Graph, variables_end, latch_at, gate_at, is_known}
use Rattle.aig_graph.specs.Circuits.{Netlist}
use Rattle.aig_graph.specs.Closed.{is_held, IsClosedSet}
use Rattle.aig_graph.specs.Move.{move_of}
use Rattle.aig_graph.specs.Border.{is_gate_in, in_border, is_read, border_size}
use Rattle.aig_graph.specs.Laws.{ClosedBorderLaw}
use Rattle.aig_graph.proofs.SearchLaws.{has_iff_contains}
use Rattle.aig_graph.specs.Counting.{count_below}
use Rattle.aig_graph.specs.Marking.{has}
use Rattle.aig_graph.proofs.CountingLaws.{count_below-same}

-- if each member is a gate, the gates of the set are its members
pub is_gate_in-same : (g : Graph) (s : List ℕ) → ((v : ℕ) → has s v ≡ true → is_some (gate_at g v) ≡ true) → (v : ℕ) → is_gate_in g s v ≡ has s v
is_gate_in-same g s gates v = elim (cases_Bool (has s v)) [
  | inl member ↦ and_from (is_some (gate_at g v)) (has s v) (gates v member) member ∙ sym member
  | inr other ↦ and_right (is_some (gate_at g v)) (has s v) other ∙ sym other
]

-- the border of a closed set are the known latches and members that are held or read from outside
pub closed_border_law : (c : Netlist) (held s : List ℕ) (v : ℕ) → ClosedBorderLaw c held s v
unfolding in_border
closed_border_law c held s v set =
    ap (λ (b : Bool). (is_known (latch_at c.aig v) || b) && (is_held c.aig held v || is_read c s v))
    (is_gate_in-same c.aig s (λ w member. ap is_some (set.closed.passable w ((has_iff_contains s w).0 member)).1) v)

-- and its size
pub closed-border_size : (c : Netlist) (held s : List ℕ) → IsClosedSet c.aig held s
    → border_size (move_of c held s) ≡ count_below (λ v. (is_known (latch_at c.aig v) || has s v) && (is_held c.aig held v || is_read c s v)) (variables_end c.aig)
unfolding border_size
closed-border_size c held s set = count_below-same _ _ (variables_end c.aig) (λ v h. closed_border_law c held s v set)
