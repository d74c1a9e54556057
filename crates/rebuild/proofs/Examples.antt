-- The moved circuits of small circuits, and the resets of their gates.
use Rattle.std.proofs.Common.{ℕ, ◌≡◌, List, [], ◌∷◌, refl}
use Rattle.aig_graph.specs.declared.graph.Reset.TheVariants.{Zero, One, Free}
use Rattle.aig_graph.specs.declared.properties.Symbol.{Symbol}
use Rattle.aig_graph.specs.Graph.{Graph}
use Rattle.aig_graph.specs.Circuits.{Netlist}
use Rattle.aig_graph.specs.Closed.{is_settled}
use Rattle.aig_graph.specs.Mapped.{mapped_props}
use Rattle.aig_graph.specs.Move.{move_of}
use Rattle.aig_graph.specs.Border.{in_border, is_read_outside}
use Rattle.aig_graph.specs.Value.{value, latch_value}
use Rattle.aig_graph.specs.Folding.{fold_gates, fold_to_depth}
use Rattle.aig_graph.specs.Counting.{count_below, places, numbered}
use Rattle.aig_graph.specs.Tables.{table}
use Rattle.rebuild.specs.Starting.{start_value, start_reset, gate_resets}
use Rattle.rebuild.specs.Moved.{moved_of, is_latched, is_outside, gates_start, copies_start, new_variable, copy_variable, advanced, moved_graph, moved_symbols}

abbrev with_outputs : Graph → List ℕ → Netlist
with_outputs g outputs = record {
  aig = g;
  props = record { outputs = outputs; bad = []; constraints = []; justice = []; fairness = [] };
  symbols = record { inputs = []; latches = []; outputs = []; bad = []; constraints = []; justice = []; fairness = [] };
}

-- a gate of two latches
abbrev both_plain : Graph
both_plain = record {
  inputs = 2;
  latches = record { next = 2; reset = Zero } ∷ record { next = 4; reset = Zero } ∷ [];
  gates = record { rhs0 = 8; rhs1 = 6 } ∷ [];
}

abbrev both_negated : Graph
both_negated = record both_plain { gates = record { rhs0 = 9; rhs1 = 7 } ∷ [] }

moved_plain : moved_of (move_of (with_outputs both_plain (10 ∷ [])) [] (5 ∷ []))
    ≡ with_outputs (record { inputs = 2; latches = record { next = 8; reset = Zero } ∷ []; gates = record { rhs0 = 4; rhs1 = 2 } ∷ [] }) (6 ∷ [])
unfolding moved_graph mapped_props moved_symbols is_latched is_outside gates_start copies_start new_variable copy_variable advanced start_value places numbered in_border is_read_outside count_below value latch_value fold_gates fold_to_depth
moved_plain = refl

moved_negated : moved_of (move_of (with_outputs both_negated (10 ∷ [])) [] (5 ∷ []))
    ≡ with_outputs (record { inputs = 2; latches = record { next = 8; reset = One } ∷ []; gates = record { rhs0 = 5; rhs1 = 3 } ∷ [] }) (6 ∷ [])
unfolding moved_graph mapped_props moved_symbols is_latched is_outside gates_start copies_start new_variable copy_variable advanced start_value places numbered in_border is_read_outside count_below value latch_value fold_gates fold_to_depth
moved_negated = refl

-- its fan-out is shared
moved_shared : moved_of (move_of (with_outputs both_plain (10 ∷ 10 ∷ 10 ∷ 10 ∷ 10 ∷ [])) [] (5 ∷ []))
    ≡ with_outputs (record { inputs = 2; latches = record { next = 8; reset = Zero } ∷ []; gates = record { rhs0 = 4; rhs1 = 2 } ∷ [] }) (6 ∷ 6 ∷ 6 ∷ 6 ∷ 6 ∷ [])
unfolding moved_graph mapped_props moved_symbols is_latched is_outside gates_start copies_start new_variable copy_variable advanced start_value places numbered in_border is_read_outside count_below value latch_value fold_gates fold_to_depth
moved_shared = refl

-- a free latch beside the two, which reads the first input, and which an output reads negated: it
-- stays, before the gate's latch
moved_beside_free : moved_of (move_of (with_outputs (record {
  inputs = 2;
  latches = record { next = 2; reset = Zero } ∷ record { next = 4; reset = One } ∷ record { next = 2; reset = Free } ∷ [];
  gates = record { rhs0 = 8; rhs1 = 6 } ∷ [];
}) (11 ∷ 12 ∷ [])) [] (6 ∷ []))
    ≡ with_outputs (record {
      inputs = 2;
      latches = record { next = 2; reset = Free } ∷ record { next = 10; reset = Zero } ∷ [];
      gates = record { rhs0 = 4; rhs1 = 2 } ∷ [];
    }) (7 ∷ 8 ∷ [])
unfolding moved_graph mapped_props moved_symbols is_latched is_outside gates_start copies_start new_variable copy_variable advanced start_value places numbered in_border is_read_outside count_below value latch_value fold_gates fold_to_depth
moved_beside_free = refl

-- a gate of the second latch alone: the first latch, which nothing reads, goes
abbrev one_read : Graph
one_read = record both_plain { gates = record { rhs0 = 8; rhs1 = 8 } ∷ [] }

moved_unread : moved_of (move_of (with_outputs one_read (10 ∷ [])) [] (5 ∷ []))
    ≡ with_outputs (record { inputs = 2; latches = record { next = 8; reset = Zero } ∷ []; gates = record { rhs0 = 4; rhs1 = 4 } ∷ [] }) (6 ∷ [])
unfolding moved_graph mapped_props moved_symbols is_latched is_outside gates_start copies_start new_variable copy_variable advanced start_value places numbered in_border is_read_outside count_below value latch_value fold_gates fold_to_depth
moved_unread = refl

-- unless it is held
moved_held : moved_of (move_of (with_outputs one_read (10 ∷ [])) (0 ∷ []) (5 ∷ []))
    ≡ with_outputs (record {
      inputs = 2;
      latches = record { next = 2; reset = Zero } ∷ record { next = 10; reset = Zero } ∷ [];
      gates = record { rhs0 = 4; rhs1 = 4 } ∷ [];
    }) (8 ∷ [])
unfolding moved_graph mapped_props moved_symbols is_latched is_outside gates_start copies_start new_variable copy_variable advanced start_value places numbered in_border is_read_outside count_below value latch_value fold_gates fold_to_depth
moved_held = refl

abbrev named : ℕ → List Symbol
named position = record { position = position; name = 97 ∷ [] } ∷ []

-- every kind of property is mapped, and of the names those of the moved latches go
moved_with_all_kinds : moved_of (move_of (record {
  aig = both_plain;
  props = record { outputs = 10 ∷ []; bad = 11 ∷ []; constraints = 3 ∷ []; justice = (11 ∷ 4 ∷ []) ∷ [] ∷ []; fairness = 10 ∷ 2 ∷ [] };
  symbols = record { inputs = named 0; latches = named 0; outputs = named 0; bad = named 0; constraints = named 0; justice = named 1; fairness = named 1 };
}) [] (5 ∷ []))
    ≡ record {
      aig = record { inputs = 2; latches = record { next = 8; reset = Zero } ∷ []; gates = record { rhs0 = 4; rhs1 = 2 } ∷ [] };
      props = record { outputs = 6 ∷ []; bad = 7 ∷ []; constraints = 3 ∷ []; justice = (7 ∷ 4 ∷ []) ∷ [] ∷ []; fairness = 6 ∷ 2 ∷ [] };
      symbols = record { inputs = named 0; latches = []; outputs = named 0; bad = named 0; constraints = named 0; justice = named 1; fairness = named 1 };
    }
unfolding moved_graph mapped_props moved_symbols is_latched is_outside gates_start copies_start new_variable copy_variable advanced start_value places numbered in_border is_read_outside count_below value latch_value fold_gates fold_to_depth
moved_with_all_kinds = refl

resets_negated : gate_resets both_negated [] ≡ One ∷ []
unfolding start_reset start_value is_settled table value latch_value fold_gates fold_to_depth
resets_negated = refl

-- a gate of a held latch isn't passable
resets_held : gate_resets both_negated (0 ∷ []) ≡ Free ∷ []
unfolding start_reset start_value is_settled table value latch_value fold_gates fold_to_depth
resets_held = refl

-- nor is one of a free latch, while the first gate here is
resets_free : gate_resets (record {
  inputs = 1;
  latches = record { next = 2; reset = One } ∷ record { next = 2; reset = Free } ∷ [];
  gates = record { rhs0 = 4; rhs1 = 4 } ∷ record { rhs0 = 8; rhs1 = 6 } ∷ [];
}) [] ≡ One ∷ Free ∷ []
unfolding start_reset start_value is_settled table value latch_value fold_gates fold_to_depth
resets_free = refl
