-- Two circuits beside each other, as a model of the first.
use Rattle.std.specs.Prelude.{ℕ, ◌+◌, ◌≡◌, ◌↔◌, Bool, [], length, slice_get, Some}
use Rattle.aig_graph.specs.Tables.{table}
use Rattle.aig_graph.specs.declared.graph.Latch.{Latch}
use Rattle.aig_graph.specs.Building.{without_gates}
use Rattle.aig_graph.specs.Circuits.{Netlist, no_symbols, outputs_alone}
use Rattle.aig_graph.specs.Graph.{Graph}
use Rattle.aig_graph.specs.Value.{value_within}
use Rattle.state_maps.specs.States.{Digits, IsAllowed, State}
use Rattle.witness_circuits.specs.declared.sharing.Sharing.{Sharing}
use Rattle.witness_circuits.specs.Lifting.{GoesAs, in_circuit}
use Rattle.witness_circuits.specs.Naming.{place_below}
use Rattle.map_miters.specs.Products.{second_state}

-- the values of d's literals, with its latches after those of c
abbrev pub in_second : Netlist → Netlist → Digits → State → ℕ → Bool
in_second c d z u = value_within d.aig z (second_state c.aig u)

-- b has the inputs of c, and the latches of c and then those of d, with their resets and steps; its
-- constraints are c's
pub record IsBeside (c d b : Netlist) : Type 0 where
  pub inputs : b.aig.inputs ≡ c.aig.inputs
  pub latches : length b.aig.latches ≡ length c.aig.latches + length d.aig.latches
  pub first : (j : ℕ) (latch : Latch) → slice_get c.aig.latches j ≡ Some latch → GoesAs b.aig j latch (in_circuit c)
  pub second : (j : ℕ) (latch : Latch) → slice_get d.aig.latches j ≡ Some latch → GoesAs b.aig (length c.aig.latches + j) latch (in_second c d)
  pub allowed : (z : Digits) (u : State) → IsAllowed b z u ↔ IsAllowed c z u

-- inputs alone, of which nothing is asked
abbrev pub no_map : ℕ → Netlist
no_map n = record { aig = without_gates n []; props = outputs_alone []; symbols = no_symbols }

-- d shares the inputs of c, and no latch
abbrev pub beside_sharing : Graph → Graph → Sharing
beside_sharing c d = record { inputs = table 0 d.inputs (place_below c.inputs); latches = table 0 (length d.latches) (place_below 0) }
