-- The arcs of worked networks, computed.
use Rattle.std.proofs.Common.{◌≡◌, ℕ, zero, suc, ◌++◌, List, [], ◌∷◌, cond, nat_lt, refl}
use Rattle.aig_graph.specs.declared.graph.Reset.TheVariants.{Zero, Free}
use Rattle.aig_graph.specs.declared.properties.Props.{Props}
use Rattle.aig_graph.specs.Graph.{Graph}
use Rattle.aig_graph.specs.Folding.{fold_gates, fold_to_depth}
use Rattle.aig_graph.specs.Closed.{is_settled}
use Rattle.aig_graph.specs.Border.{is_read_outside}
use Rattle.aig_graph.specs.Counting.{count_below, places}
use Rattle.frame_net.specs.Passable.{is_passable, passable_gates}
use Rattle.frame_net.specs.Capacity.{has_node, is_observed, capacity, node_total}

-- the arcs with tail v to heads below m, and all arcs with tails below n, as tail, head and
-- capacity
abbrev arcs_from : (ℕ → ℕ → ℕ) → ℕ → ℕ → List (ℕ × ℕ × ℕ)
arcs_from cap' v zero = []
arcs_from cap' v (suc m) = arcs_from cap' v m ++ cond (nat_lt 0 (cap' v m)) ((v, m, cap' v m) ∷ []) []

abbrev arcs_below : (ℕ → ℕ → ℕ) → ℕ → ℕ → List (ℕ × ℕ × ℕ)
arcs_below cap' m zero = []
arcs_below cap' m (suc n) = arcs_below cap' m n ++ arcs_from cap' n m

-- two inputs, a latch fed by each, and the gate of the latches, which is the output
abbrev one_gate : Graph
one_gate = record {
  inputs = 2;
  latches = record { next = 2; reset = Zero } ∷ record { next = 4; reset = Zero } ∷ [];
  gates = record { rhs0 = 8; rhs1 = 6 } ∷ [];
}

abbrev output : ℕ → Props
output lit = record { outputs = lit ∷ []; bad = []; constraints = []; justice = []; fairness = [] }

one_gate-arcs : arcs_below (capacity one_gate (output 10) []) (node_total one_gate []) (node_total one_gate [])
    ≡ (0, 2, 1) ∷ (0, 3, 1) ∷ (2, 4, 3) ∷ (3, 4, 3) ∷ (4, 5, 1) ∷ (5, 1, 3) ∷ []
unfolding capacity has_node is_observed is_passable is_settled fold_gates fold_to_depth is_read_outside count_below places
one_gate-arcs = refl

-- those arcs with the first latch held: no gate is passable, and both latches leave the frame
held-arcs : arcs_below (capacity one_gate (output 10) (0 ∷ [])) (node_total one_gate (0 ∷ [])) (node_total one_gate (0 ∷ []))
    ≡ (0, 2, 1) ∷ (0, 3, 1) ∷ (2, 1, 3) ∷ (3, 1, 3) ∷ []
unfolding capacity has_node is_observed is_passable is_settled fold_gates fold_to_depth is_read_outside count_below places
held-arcs = refl

-- four latches, two gates of two latches each, and the gate of these, which is the output
abbrev three_gates : Graph
three_gates = record {
  inputs = 4;
  latches = record { next = 2; reset = Zero } ∷ record { next = 4; reset = Zero } ∷ record { next = 6; reset = Zero } ∷ record { next = 8; reset = Zero } ∷ [];
  gates = record { rhs0 = 12; rhs1 = 10 } ∷ record { rhs0 = 16; rhs1 = 14 } ∷ record { rhs0 = 20; rhs1 = 18 } ∷ [];
}

three_gates-arcs : arcs_below (capacity three_gates (output 22) []) (node_total three_gates []) (node_total three_gates [])
    ≡ (0, 2, 1) ∷ (0, 3, 1) ∷ (0, 4, 1) ∷ (0, 5, 1) ∷ (2, 6, 5) ∷ (3, 6, 5) ∷ (4, 8, 5) ∷ (5, 8, 5) ∷ (6, 7, 1) ∷ (7, 10, 5) ∷ (8, 9, 1) ∷ (9, 10, 5) ∷ (10, 6, 5) ∷ (10, 8, 5) ∷ (10, 11, 1) ∷ (11, 1, 5) ∷ []
unfolding capacity has_node is_observed is_passable is_settled fold_gates fold_to_depth is_read_outside count_below places
three_gates-arcs = refl

-- a gate of a known and a free latch isn't passable, and the known latch leaves the frame
abbrev with_free : Graph
with_free = record {
  inputs = 2;
  latches = record { next = 2; reset = Free } ∷ record { next = 4; reset = Zero } ∷ [];
  gates = record { rhs0 = 8; rhs1 = 6 } ∷ [];
}

with_free-arcs : arcs_below (capacity with_free (output 10) []) (node_total with_free []) (node_total with_free []) ≡ (0, 2, 1) ∷ (2, 1, 2) ∷ []
unfolding capacity has_node is_observed is_passable is_settled fold_gates fold_to_depth is_read_outside count_below places
with_free-arcs = refl

passable-examples : (passable_gates one_gate [] ≡ 5 ∷ []) × (passable_gates one_gate (1 ∷ []) ≡ []) × (passable_gates with_free [] ≡ []) × (passable_gates three_gates (3 ∷ []) ≡ 9 ∷ [])
unfolding is_passable is_settled fold_gates fold_to_depth places
passable-examples = (refl, refl, refl, refl)
