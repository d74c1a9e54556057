-- Levels, arrivals and bounded circuits, computed.
use Rattle.std.proofs.Common.{◌≡◌, [], ◌∷◌, refl, true, false}
use Rattle.aig_graph.specs.declared.graph.Reset.TheVariants.{Zero}
use Rattle.aig_graph.specs.Circuits.{Netlist, outputs_alone, no_symbols}
use Rattle.aig_graph.specs.Closed.{is_settled}
use Rattle.aig_graph.specs.Folding.{fold_gates, fold_to_depth}
use Rattle.frame_net.specs.Passable.{is_passable}
use Rattle.path_levels.specs.Levels.{level, levels}
use Rattle.path_levels.specs.Arrivals.{arrival}
use Rattle.path_levels.specs.Bounded.{is_barred, bounded}

-- Four inputs, and a latch over each, 5 to 8. The gates 9 and 10 are of two and two of them. The
-- gate 11 is of these gates, and an output reads it.
tree : Netlist
tree = record {
  aig = record {
    inputs = 4;
    latches = record { next = 2; reset = Zero } ∷ record { next = 4; reset = Zero } ∷ record { next = 6; reset = Zero } ∷ record { next = 8; reset = Zero } ∷ [];
    gates = record { rhs0 = 12; rhs1 = 10 } ∷ record { rhs0 = 16; rhs1 = 14 } ∷ record { rhs0 = 20; rhs1 = 18 } ∷ [];
  };
  props = outputs_alone (22 ∷ []);
  symbols = no_symbols;
}

arrivals_in_tree :
    (arrival tree.aig 5 ≡ 0) × (arrival tree.aig 9 ≡ 1) × (arrival tree.aig 10 ≡ 1) × (arrival tree.aig 11 ≡ 2) × (levels tree ≡ 2)
unfolding arrival level levels fold_gates fold_to_depth tree
arrivals_in_tree = (refl, refl, refl, refl, refl)

-- By a bound of 1 the last gate is barred, by one of 2 none. With the first latch held the last
-- gate isn't passable, so a bound of 1 bars none.
barred_in_tree :
    (is_barred 1 tree.aig [] 9 ≡ false) × (is_barred 1 tree.aig [] 11 ≡ true) × (is_barred 2 tree.aig [] 11 ≡ false) × (is_barred 0 tree.aig [] 9 ≡ true)
    × (is_barred 0 tree.aig [] 5 ≡ false) × (is_barred 1 tree.aig (0 ∷ []) 11 ≡ false)
unfolding is_barred is_passable is_settled arrival level fold_gates fold_to_depth tree
barred_in_tree = (refl, refl, refl, refl, refl, refl)

-- it reads the constant then, and outputs read what it read
bounded_tree :
    ((bounded 1 [] tree).aig.gates ≡ record { rhs0 = 12; rhs1 = 10 } ∷ record { rhs0 = 16; rhs1 = 14 } ∷ record { rhs0 = 0; rhs1 = 0 } ∷ [])
    × ((bounded 1 [] tree).props.outputs ≡ 22 ∷ 20 ∷ 18 ∷ []) × ((bounded 2 [] tree).aig.gates ≡ tree.aig.gates) × ((bounded 2 [] tree).props.outputs ≡ 22 ∷ [])
unfolding bounded is_barred is_passable is_settled arrival level fold_gates fold_to_depth tree
bounded_tree = (refl, refl, refl, refl)

-- Four inputs, and the gates 7, 8 and 9 one above the other. A latch, 5, is over the last of them,
-- negated, and one, 6, over an input. The gate of both latches, 10, is read by an output.
late : Netlist
late = record {
  aig = record {
    inputs = 4;
    latches = record { next = 19; reset = Zero } ∷ record { next = 2; reset = Zero } ∷ [];
    gates = record { rhs0 = 4; rhs1 = 2 } ∷ record { rhs0 = 14; rhs1 = 6 } ∷ record { rhs0 = 16; rhs1 = 8 } ∷ record { rhs0 = 12; rhs1 = 10 } ∷ [];
  };
  props = outputs_alone (20 ∷ []);
  symbols = no_symbols;
}

arrivals_of_late_latch :
    (arrival late.aig 5 ≡ 3) × (arrival late.aig 6 ≡ 0) × (arrival late.aig 10 ≡ 4) × (levels late ≡ 3) × (is_barred 3 late.aig [] 10 ≡ true) × (is_barred 4 late.aig [] 10 ≡ false)
unfolding is_barred is_passable is_settled arrival level levels fold_gates fold_to_depth late
arrivals_of_late_latch = (refl, refl, refl, refl, refl, refl)
