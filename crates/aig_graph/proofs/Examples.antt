-- Values and counts, computed.
use Rattle.std.proofs.Common.{◌≡◌, [], ◌∷◌, refl, true, false, nat_eq, List, Some, None}
use Rattle.aig_graph.specs.declared.graph.Reset.TheVariants.{Zero, One, Free}
use Rattle.aig_graph.specs.Graph.{Graph}
use Rattle.aig_graph.specs.Circuits.{Netlist, outputs_alone, no_symbols}
use Rattle.aig_graph.specs.Border.{border_size, in_border, is_read_outside}
use Rattle.aig_graph.specs.Move.{move_of}
use Rattle.aig_graph.specs.Counting.{count_below}
use Rattle.aig_graph.specs.declared.properties.Symbol.{Symbol}
use Rattle.aig_graph.specs.Closed.{is_settled}
use Rattle.aig_graph.specs.Keep.{held_by, first_missing}
use Rattle.aig_graph.specs.Value.{value, latch_value}
use Rattle.aig_graph.specs.Folding.{fold_gates, fold_to_depth}

-- two inputs, a latch at each, and the gate of the latches, 5
abbrev known : Graph
known = record {
  inputs = 2;
  latches = record { next = 2; reset = Zero } ∷ record { next = 4; reset = One } ∷ [];
  gates = record { rhs0 = 8; rhs1 = 6 } ∷ [];
}

values_of_gate :
    (value known (λ t i. true) (λ j. false) 0 10 ≡ false) × (value known (λ t i. true) (λ j. false) 1 10 ≡ true)
    × (value known (λ t i. nat_eq t 3) (λ j. false) 4 11 ≡ false) × (value known (λ t i. nat_eq t 3) (λ j. false) 5 11 ≡ true)
unfolding value latch_value fold_gates fold_to_depth
values_of_gate = (refl, refl, refl, refl)

-- one input, a free latch at it, a latch that reads the free one, and the gate of both, the first
-- of them negated
abbrev with_free : Graph
with_free = record {
  inputs = 1;
  latches = record { next = 2; reset = Free } ∷ record { next = 4; reset = Zero } ∷ [];
  gates = record { rhs0 = 6; rhs1 = 5 } ∷ [];
}

values_with_free_latch :
    (value with_free (λ t i. true) (λ j. true) 0 4 ≡ true) × (value with_free (λ t i. true) (λ j. false) 0 4 ≡ false)
    × (value with_free (λ t i. false) (λ j. true) 1 4 ≡ false) × (value with_free (λ t i. false) (λ j. true) 1 6 ≡ true)
    × (value with_free (λ t i. false) (λ j. true) 1 8 ≡ true) × (value with_free (λ t i. false) (λ j. true) 2 8 ≡ false)
    × (value with_free (λ t i. false) (λ j. false) 1 9 ≡ true) × (value with_free (λ t i. true) (λ j. true) 1 5 ≡ false)
unfolding value latch_value fold_gates fold_to_depth
values_with_free_latch = (refl, refl, refl, refl, refl, refl, refl, refl)

-- Four known latches, and the gates 9 to 12, each of which reads 9 or two others. Latches 5 and 6
-- and gates 9 and 12 are read.
netlist : Netlist
netlist = record {
  aig = record {
    inputs = 4;
    latches = record { next = 2; reset = Zero } ∷ record { next = 4; reset = Zero } ∷ record { next = 6; reset = Zero } ∷ record { next = 8; reset = Zero } ∷ [];
    gates = record { rhs0 = 12; rhs1 = 10 } ∷ record { rhs0 = 18; rhs1 = 14 } ∷ record { rhs0 = 18; rhs1 = 16 } ∷ record { rhs0 = 22; rhs1 = 20 } ∷ [];
  };
  props = outputs_alone (10 ∷ 12 ∷ 18 ∷ 24 ∷ []);
  symbols = no_symbols;
}

-- an input, a free latch and a known one, and the gate of the input and the free latch, 4; an
-- output reads each
reads_input : Netlist
reads_input = record {
  aig = record {
    inputs = 1;
    latches = record { next = 2; reset = Free } ∷ record { next = 8; reset = Zero } ∷ [];
    gates = record { rhs0 = 4; rhs1 = 2 } ∷ [];
  };
  props = outputs_alone (2 ∷ 4 ∷ 6 ∷ 8 ∷ []);
  symbols = no_symbols;
}

counts :
    (border_size (move_of netlist [] []) ≡ 4) × (border_size (move_of netlist [] (9 ∷ [])) ≡ 5) × (border_size (move_of netlist [] (9 ∷ 10 ∷ [])) ≡ 5)
    × (border_size (move_of netlist [] (9 ∷ 11 ∷ [])) ≡ 5) × (border_size (move_of netlist [] (9 ∷ 10 ∷ 11 ∷ [])) ≡ 5)
    × (border_size (move_of netlist [] (9 ∷ 10 ∷ 11 ∷ 12 ∷ [])) ≡ 4)
unfolding border_size in_border is_read_outside count_below netlist
counts = (refl, refl, refl, refl, refl, refl)

-- of a list that is no closed set the gates count, as 10 without 9, which it reads; the constant,
-- inputs and free latches don't
counts_of_other_lists :
    (border_size (move_of netlist [] (10 ∷ [])) ≡ 4) × (border_size (move_of netlist [] (12 ∷ [])) ≡ 5) × (border_size (move_of netlist [] (10 ∷ 11 ∷ 12 ∷ 13 ∷ [])) ≡ 3)
    × (border_size (move_of netlist [] (0 ∷ 1 ∷ [])) ≡ 4) × (border_size (move_of reads_input [] []) ≡ 1) × (border_size (move_of reads_input [] (1 ∷ 2 ∷ 3 ∷ [])) ≡ 1)
    × (border_size (move_of reads_input [] (4 ∷ [])) ≡ 2) × (border_size (move_of reads_input [] (1 ∷ 4 ∷ 5 ∷ [])) ≡ 2)
unfolding border_size in_border is_read_outside count_below netlist reads_input
counts_of_other_lists = (refl, refl, refl, refl, refl, refl, refl, refl)

-- with the first latch, 5, held, gate 9 and what rests on it aren't passable; with the third, 7,
-- gate 10 isn't
passable_beside_held_latches :
    (is_settled netlist.aig [] 9 ≡ true) × (is_settled netlist.aig (0 ∷ []) 9 ≡ false) × (is_settled netlist.aig (0 ∷ []) 12 ≡ false)
    × (is_settled netlist.aig (2 ∷ []) 9 ≡ true) × (is_settled netlist.aig (2 ∷ []) 10 ≡ false) × (is_settled netlist.aig (2 ∷ []) 11 ≡ true)
    × (is_settled netlist.aig (2 ∷ []) 12 ≡ false)
unfolding is_settled fold_gates fold_to_depth netlist
passable_beside_held_latches = (refl, refl, refl, refl, refl, refl, refl)

-- the third latch is read by gate 10 alone: over gates 9, 10 and 11 it leaves the border, unless it
-- is held
border_with_held_latches :
    (in_border (move_of netlist [] (9 ∷ 10 ∷ 11 ∷ [])) 7 ≡ false) × (in_border (move_of netlist (2 ∷ []) (9 ∷ 10 ∷ 11 ∷ [])) 7 ≡ true)
    × (in_border (move_of netlist (0 ∷ []) (9 ∷ 10 ∷ 11 ∷ [])) 7 ≡ false) × (border_size (move_of netlist (2 ∷ []) (9 ∷ 11 ∷ [])) ≡ 5)
unfolding border_size in_border is_read_outside count_below netlist
border_with_held_latches = (refl, refl, refl, refl)

-- latches 0 and 2 are named a, latch 1 is named b
abbrev names : List Symbol
names = record { position = 0; name = 97 ∷ [] } ∷ record { position = 1; name = 98 ∷ [] } ∷ record { position = 2; name = 97 ∷ [] } ∷ []

held_by_name :
    (held_by ((97 ∷ []) ∷ []) names ≡ 0 ∷ 2 ∷ []) × (held_by ((98 ∷ []) ∷ (99 ∷ []) ∷ []) names ≡ 1 ∷ []) × (held_by ([] ∷ []) names ≡ [])
    × (first_missing names ((97 ∷ []) ∷ (98 ∷ []) ∷ []) ≡ None) × (first_missing names ((98 ∷ []) ∷ (99 ∷ []) ∷ [] ∷ []) ≡ Some 1)
unfolding held_by first_missing
held_by_name = (refl, refl, refl, refl, refl)
