-- Passes over small circuits.
use Rattle.std.proofs.Common.{ℕ, ◌≡◌, List, [], ◌∷◌, refl}
use Rattle.aig_graph.specs.declared.graph.Reset.TheVariants.{Zero, One, Free}
use Rattle.aig_graph.specs.Graph.{Graph}
use Rattle.aig_graph.specs.Circuits.{Netlist}
use Rattle.aig_graph.specs.Marking.{has}
use Rattle.aig_graph.specs.Counting.{count_below, places}
use Rattle.aig_graph.specs.Tables.{table}
use Rattle.cleaned_circuits.specs.Latches.{leaf_substitute, first_where}
use Rattle.aig_graph.specs.Mapped.{mapped_props}
use Rattle.cleaned_circuits.specs.Merged.{merge_gates, substitutes_of, replaced_graph, merged_of}
use Rattle.cleaned_circuits.specs.Trimmed.{picked, trimmed_graph, trimmed_symbols, trimmed_of, kept_free}

abbrev with_outputs : Graph → List ℕ → Netlist
with_outputs g outputs = record {
  aig = g;
  props = record { outputs = outputs; bad = []; constraints = []; justice = []; fairness = [] };
  symbols = record { inputs = []; latches = []; outputs = []; bad = []; constraints = []; justice = []; fairness = [] };
}

-- two equal gates: the gate of both is the first, and the one of opposite literals is 0
pass_shares : trimmed_of (merged_of [] (with_outputs (record {
  inputs = 2;
  latches = [];
  gates = record { rhs0 = 4; rhs1 = 2 } ∷ record { rhs0 = 4; rhs1 = 2 } ∷ record { rhs0 = 8; rhs1 = 6 } ∷ record { rhs0 = 9; rhs1 = 6 } ∷ [];
}) (10 ∷ 12 ∷ []))) (has (1 ∷ 2 ∷ 3 ∷ []))
    ≡ with_outputs (record { inputs = 2; latches = []; gates = record { rhs0 = 4; rhs1 = 2 } ∷ [] }) (6 ∷ 0 ∷ [])
unfolding leaf_substitute first_where places table count_below merge_gates substitutes_of replaced_graph mapped_props picked trimmed_graph trimmed_symbols
pass_shares = refl

-- of three free latches the second is read by itself alone
pass_drops : trimmed_of (merged_of [] (with_outputs (record {
  inputs = 1;
  latches = record { next = 2; reset = Free } ∷ record { next = 2; reset = Free } ∷ record { next = 4; reset = Free } ∷ [];
  gates = [];
}) (8 ∷ []))) (has (1 ∷ 2 ∷ 4 ∷ []))
    ≡ with_outputs (record { inputs = 1; latches = record { next = 2; reset = Free } ∷ record { next = 4; reset = Free } ∷ []; gates = [] }) (6 ∷ [])
unfolding leaf_substitute first_where places table count_below merge_gates substitutes_of replaced_graph mapped_props picked trimmed_graph trimmed_symbols
pass_drops = refl

-- twins after twins: the second pair becomes equal once the first is one, and then the gate is 0
first_pass : trimmed_of (merged_of [] (with_outputs (record {
  inputs = 1;
  latches = record { next = 2; reset = Zero } ∷ record { next = 2; reset = Zero } ∷ record { next = 4; reset = Zero } ∷ record { next = 6; reset = Zero } ∷ [];
  gates = record { rhs0 = 10; rhs1 = 9 } ∷ [];
}) (12 ∷ []))) (has (1 ∷ 2 ∷ 4 ∷ 5 ∷ 6 ∷ []))
    ≡ with_outputs (record {
      inputs = 1;
      latches = record { next = 2; reset = Zero } ∷ record { next = 4; reset = Zero } ∷ record { next = 4; reset = Zero } ∷ [];
      gates = record { rhs0 = 8; rhs1 = 7 } ∷ [];
    }) (10 ∷ [])
unfolding leaf_substitute first_where places table count_below merge_gates substitutes_of replaced_graph mapped_props picked trimmed_graph trimmed_symbols
first_pass = refl

second_pass : trimmed_of (merged_of [] (with_outputs (record {
  inputs = 1;
  latches = record { next = 2; reset = Zero } ∷ record { next = 4; reset = Zero } ∷ record { next = 4; reset = Zero } ∷ [];
  gates = record { rhs0 = 8; rhs1 = 7 } ∷ [];
}) (10 ∷ []))) (has (0 ∷ []))
    ≡ with_outputs (record { inputs = 1; latches = []; gates = [] }) (0 ∷ [])
unfolding leaf_substitute first_where places table count_below merge_gates substitutes_of replaced_graph mapped_props picked trimmed_graph trimmed_symbols
second_pass = refl

-- the places of the two that stay among the three free latches
pass_drops_free : kept_free (merged_of [] (with_outputs (record {
  inputs = 1;
  latches = record { next = 2; reset = Free } ∷ record { next = 2; reset = Free } ∷ record { next = 4; reset = Free } ∷ [];
  gates = [];
}) (8 ∷ []))).aig (has (2 ∷ 4 ∷ [])) ≡ 0 ∷ 2 ∷ []
unfolding leaf_substitute first_where places table count_below merge_gates substitutes_of replaced_graph mapped_props picked trimmed_graph trimmed_symbols kept_free
pass_drops_free = refl

-- a latch that is negated at each step isn't constant
toggle : Netlist
toggle = with_outputs (record { inputs = 0; latches = record { next = 3; reset = Zero } ∷ []; gates = [] }) (2 ∷ [])

toggle_stays : trimmed_of (merged_of [] toggle) (has (1 ∷ [])) ≡ toggle
unfolding leaf_substitute first_where places table count_below merge_gates substitutes_of replaced_graph mapped_props picked trimmed_graph trimmed_symbols toggle
toggle_stays = refl

-- two latches with one next literal and reset
twins : List ℕ → Netlist
twins outputs = with_outputs (record { inputs = 1; latches = record { next = 2; reset = One } ∷ record { next = 2; reset = One } ∷ []; gates = [] }) outputs

-- the second becomes the first, also if the first is held
twin_becomes_held : trimmed_of (merged_of (0 ∷ []) (twins (4 ∷ 6 ∷ []))) (has (2 ∷ []))
    ≡ with_outputs (record { inputs = 1; latches = record { next = 2; reset = One } ∷ []; gates = [] }) (4 ∷ 4 ∷ [])
unfolding leaf_substitute first_where places table count_below merge_gates substitutes_of replaced_graph mapped_props picked trimmed_graph trimmed_symbols twins
twin_becomes_held = refl

-- but not if the second is held
held_twin_stays : trimmed_of (merged_of (1 ∷ []) (twins (4 ∷ 6 ∷ []))) (has (2 ∷ 3 ∷ [])) ≡ twins (4 ∷ 6 ∷ [])
unfolding leaf_substitute first_where places table count_below merge_gates substitutes_of replaced_graph mapped_props picked trimmed_graph trimmed_symbols twins
held_twin_stays = refl

-- a latch that reads itself, and nothing reads it
constant_latch : List ℕ → Netlist
constant_latch outputs = with_outputs (record { inputs = 1; latches = record { next = 4; reset = Zero } ∷ []; gates = [] }) outputs

constant_latch_goes : trimmed_of (merged_of [] (constant_latch (4 ∷ []))) (has []) ≡ with_outputs (record { inputs = 1; latches = []; gates = [] }) (0 ∷ [])
unfolding leaf_substitute first_where places table count_below merge_gates substitutes_of replaced_graph mapped_props picked trimmed_graph trimmed_symbols constant_latch
constant_latch_goes = refl

held_constant_latch_stays : trimmed_of (merged_of (0 ∷ []) (constant_latch (2 ∷ []))) (has (2 ∷ [])) ≡ constant_latch (2 ∷ [])
unfolding leaf_substitute first_where places table count_below merge_gates substitutes_of replaced_graph mapped_props picked trimmed_graph trimmed_symbols constant_latch
held_constant_latch_stays = refl
