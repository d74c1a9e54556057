-- Levels and arrivals of small circuits, and the levels once their latches have moved.
use Rattle.std.proofs.Common.{◌≡◌, [], ◌∷◌, refl}
use Rattle.aig_graph.specs.Counting.{count_below, places, numbered}
use Rattle.aig_graph.specs.declared.graph.Reset.TheVariants.{Zero}
use Rattle.aig_graph.specs.Border.{in_border, is_read_outside}
use Rattle.aig_graph.specs.Circuits.{Netlist, no_symbols, outputs_alone}
use Rattle.aig_graph.specs.Folding.{fold_gates, fold_to_depth}
use Rattle.aig_graph.specs.Mapped.{mapped_props}
use Rattle.aig_graph.specs.Move.{move_of}
use Rattle.aig_graph.specs.Value.{latch_value, value}
use Rattle.path_levels.specs.Arrivals.{arrival}
use Rattle.path_levels.specs.Levels.{level, levels}
use Rattle.rebuild.specs.Moved.{advanced, copies_start, copy_variable, gates_start, is_latched, is_outside, moved_graph, moved_of, moved_symbols, new_variable}
use Rattle.rebuild.specs.Starting.{start_value}

-- four latches over inputs, a gate of two and a gate of two, and an output of the gate of both
abbrev four_latches : Netlist
four_latches = record {
  aig = record {
    inputs = 4;
    latches = record { next = 2; reset = Zero } ∷ record { next = 4; reset = Zero } ∷ record { next = 6; reset = Zero } ∷ record { next = 8; reset = Zero } ∷ [];
    gates = record { rhs0 = 12; rhs1 = 10 } ∷ record { rhs0 = 16; rhs1 = 14 } ∷ record { rhs0 = 20; rhs1 = 18 } ∷ [];
  };
  props = outputs_alone (22 ∷ []);
  symbols = no_symbols;
}

four-before : levels four_latches ≡ 2
unfolding levels level fold_gates fold_to_depth
four-before = refl

four-arrivals : (arrival four_latches.aig 9 ≡ 1) × (arrival four_latches.aig 10 ≡ 1) × (arrival four_latches.aig 11 ≡ 2)
unfolding arrival level fold_gates fold_to_depth
four-arrivals = (refl, refl, refl)

-- over the first two gates, the path is cut in half
four-lower : levels (moved_of (move_of four_latches [] (9 ∷ 10 ∷ []))) ≡ 1
unfolding levels level moved_graph mapped_props moved_symbols is_latched is_outside gates_start copies_start new_variable copy_variable advanced start_value places numbered in_border is_read_outside count_below value latch_value fold_gates fold_to_depth
four-lower = refl

-- over all three, it stands before the latch
four-all : levels (moved_of (move_of four_latches [] (9 ∷ 10 ∷ 11 ∷ []))) ≡ 2
unfolding levels level moved_graph mapped_props moved_symbols is_latched is_outside gates_start copies_start new_variable copy_variable advanced start_value places numbered in_border is_read_outside count_below value latch_value fold_gates fold_to_depth
four-all = refl

-- a latch that reads three gates above each other, a latch that reads an input, and an output of
-- the gate of both
abbrev late : Netlist
late = record {
  aig = record {
    inputs = 2;
    latches = record { next = 14; reset = Zero } ∷ record { next = 2; reset = Zero } ∷ [];
    gates = record { rhs0 = 4; rhs1 = 2 } ∷ record { rhs0 = 10; rhs1 = 2 } ∷ record { rhs0 = 12; rhs1 = 4 } ∷ record { rhs0 = 8; rhs1 = 6 } ∷ [];
  };
  props = outputs_alone (16 ∷ []);
  symbols = no_symbols;
}

late-before : levels late ≡ 3
unfolding levels level fold_gates fold_to_depth
late-before = refl

late-arrival : arrival late.aig 8 ≡ 4
unfolding arrival level fold_gates fold_to_depth
late-arrival = refl

-- over its last gate, its path is as long as that gate's arrival
late-after : levels (moved_of (move_of late [] (8 ∷ []))) ≡ 4
unfolding levels level moved_graph mapped_props moved_symbols is_latched is_outside gates_start copies_start new_variable copy_variable advanced start_value places numbered in_border is_read_outside count_below value latch_value fold_gates fold_to_depth
late-after = refl
