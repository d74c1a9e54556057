-- Routes of small circuits, computed.
use Rattle.std.proofs.Common.{◌≡◌, ℕ, [], ◌∷◌, refl, true, false}
use Rattle.aig_graph.specs.declared.graph.Reset.TheVariants.{Zero}
use Rattle.aig_graph.specs.Circuits.{Netlist, outputs_alone, no_symbols}
use Rattle.aig_graph.specs.Closed.{is_settled}
use Rattle.aig_graph.specs.Folding.{fold_gates, fold_to_depth}
use Rattle.aig_graph.specs.Border.{is_read_outside}
use Rattle.frame_net.specs.declared.net.Point.{Point}
use Rattle.frame_net.specs.Passable.{is_passable}
use Rattle.frame_net.specs.Capacity.{is_observed}
use Rattle.certificates.specs.Routes.{is_route, goes_on, may_step, passed, all_passed}

abbrev before : ℕ → Point
before v = record { var = v; behind = false }

abbrev after : ℕ → Point
after v = record { var = v; behind = true }

-- two inputs, a latch at each, and the gate of the latches, 5, which is the output
abbrev two : Netlist
two = record {
  aig = record {
    inputs = 2;
    latches = record { next = 2; reset = Zero } ∷ record { next = 4; reset = Zero } ∷ [];
    gates = record { rhs0 = 8; rhs1 = 6 } ∷ [];
  };
  props = outputs_alone (10 ∷ []);
  symbols = no_symbols;
}

routes_of_two :
    (is_route two [] (after 3 ∷ before 5 ∷ after 5 ∷ []) ≡ true) × (is_route two [] (after 4 ∷ before 5 ∷ after 5 ∷ []) ≡ true)
    × (is_route two [] (after 3 ∷ before 5 ∷ []) ≡ false) × (is_route two [] (after 3 ∷ []) ≡ false) × (is_route two [] [] ≡ false)
    × (is_route two [] (before 5 ∷ after 5 ∷ []) ≡ false) × (is_route two (0 ∷ []) (after 3 ∷ before 5 ∷ after 5 ∷ []) ≡ false)
    × (is_route two (0 ∷ []) (after 3 ∷ []) ≡ true)
unfolding goes_on may_step is_observed is_passable is_settled is_read_outside fold_gates fold_to_depth
routes_of_two = (refl, refl, refl, refl, refl, refl, refl, refl)

-- both pass after the gate
shared_gate : all_passed ((after 3 ∷ before 5 ∷ after 5 ∷ []) ∷ (after 4 ∷ before 5 ∷ after 5 ∷ []) ∷ []) ≡ 3 ∷ 5 ∷ 4 ∷ 5 ∷ []
unfolding all_passed passed
shared_gate = refl

-- Four latches, and the gates 9 to 12. Gates 10 and 11 read 9, and 12 reads 10 and 11. Latches 5
-- and 6 and gates 9 and 12 are outputs.
abbrev four : Netlist
four = record {
  aig = record {
    inputs = 4;
    latches = record { next = 2; reset = Zero } ∷ record { next = 4; reset = Zero } ∷ record { next = 6; reset = Zero } ∷ record { next = 8; reset = Zero } ∷ [];
    gates = record { rhs0 = 12; rhs1 = 10 } ∷ record { rhs0 = 18; rhs1 = 14 } ∷ record { rhs0 = 18; rhs1 = 16 } ∷ record { rhs0 = 22; rhs1 = 20 } ∷ [];
  };
  props = outputs_alone (10 ∷ 12 ∷ 18 ∷ 24 ∷ []);
  symbols = no_symbols;
}

-- the third goes back from before gate 10 to before gate 9, which it reads
routes_of_four :
    (is_route four [] (after 5 ∷ []) ≡ true) × (is_route four [] (after 6 ∷ []) ≡ true)
    × (is_route four [] (after 7 ∷ before 10 ∷ before 9 ∷ after 9 ∷ []) ≡ true)
    × (is_route four [] (after 8 ∷ before 11 ∷ after 11 ∷ before 12 ∷ after 12 ∷ []) ≡ true)
    × (is_route four [] (after 7 ∷ before 10 ∷ before 11 ∷ after 11 ∷ []) ≡ false)
unfolding goes_on may_step is_observed is_passable is_settled is_read_outside fold_gates fold_to_depth
routes_of_four = (refl, refl, refl, refl, refl)
