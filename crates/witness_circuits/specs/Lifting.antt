-- A witness circuit of a mapped circuit, read through the map.
use Rattle.std.specs.Prelude.{ℕ, ◌+◌, ◌*◌, ◌≡◌, ◌≤◌, ◌++◌, ◌↔◌, Bool, List, length, slice_get, Some, None, codes, decimal}
use Rattle.aig_graph.specs.Tables.{table}
use Rattle.aig_graph.specs.declared.graph.Latch.{Latch}
use Rattle.aig_graph.specs.declared.properties.Symbol.{Symbol}
use Rattle.aig_graph.specs.Circuits.{Netlist}
use Rattle.aig_graph.specs.Graph.{Graph, first_latch}
use Rattle.aig_graph.specs.Value.{value_within}
use Rattle.state_maps.specs.States.{Digits, IsAllowed, State}
use Rattle.state_maps.specs.MapCircuits.{is_kept, mapped}
use Rattle.witness_circuits.specs.declared.sharing.Sharing.{Sharing}
use Rattle.witness_circuits.specs.Witnesses.{IsGood}
use Rattle.witness_circuits.specs.Joining.{joined, own_at, own_count}

-- The values of the witness's inputs and latches. What is shared comes from the circuit and through
-- the map, and its own come after the circuit's.
abbrev pub witness_digits : Netlist → Sharing → Digits → Digits
witness_digits c k z = joined k.inputs z (λ i. z (own_at c.aig.inputs k.inputs i))

-- The values of the witness's latches in a step of the lifted one. What is shared comes through the
-- map, and its own come after the circuit's.
abbrev pub witness_state : Netlist → Netlist → Sharing → State → State
witness_state c m k u = joined k.latches (mapped m u) (λ j. u (own_at (length c.aig.latches) k.latches j))

-- latch j of g has the reset of this one, and its next literal the value that this one's has by
-- `own`
pub record GoesAs (g : Graph) (j : ℕ) (latch : Latch) (own : Digits → State → ℕ → Bool) : Type 0 where
  pub is : Latch
  pub there : slice_get g.latches j ≡ Some is
  pub reset : is.reset ≡ latch.reset
  pub next : (z : Digits) (u : State) → value_within g z u is.next ≡ own z u latch.next

-- the values of literals in a step of the circuit
abbrev pub in_circuit : Netlist → Digits → State → ℕ → Bool
in_circuit c z u = value_within c.aig z u

-- the values of literals in a step of the witness
abbrev pub in_witness : Netlist → Netlist → Netlist → Sharing → Digits → State → ℕ → Bool
in_witness c m w k z u = value_within w.aig (witness_digits c k z) (witness_state c m k u)

-- a name that says the literal of a variable, and one for each of the first n
abbrev pub literal_name : ℕ → ℕ → Symbol
literal_name first i = record { position = i; name = codes "= " ++ decimal (2 * (first + i)) }

-- a name that says its literal, for each of the first n
abbrev pub literal_names : ℕ → ℕ → List Symbol
literal_names first n = table 0 n (literal_name first)

-- r has the inputs and latches of c with their resets and steps, then w's own, which read through
-- the map what w shares. Its constraints are c's. It is good if the map's and w's constraints hold,
-- and w is good.
pub record IsLiftedOver (c m w : Netlist) (k : Sharing) (r : Netlist) : Type 0 where
  pub inputs : r.aig.inputs ≡ c.aig.inputs + own_count k.inputs
  pub latches : length r.aig.latches ≡ length c.aig.latches + own_count k.latches
  pub first : (j : ℕ) (latch : Latch) → slice_get c.aig.latches j ≡ Some latch → GoesAs r.aig j latch (in_circuit c)
  pub own : (j : ℕ) (latch : Latch) → slice_get k.latches j ≡ Some None → slice_get w.aig.latches j ≡ Some latch
      → GoesAs r.aig (own_at (length c.aig.latches) k.latches j) latch (in_witness c m w k)
  pub allowed : (z : Digits) (u : State) → IsAllowed r z u ↔ IsAllowed c z u
  pub good : (z : Digits) (u : State) → IsGood r z u
      ↔ (is_kept m u × IsAllowed w (witness_digits c k z) (witness_state c m k u) × IsGood w (witness_digits c k z) (witness_state c m k u))

-- the names of r say that its first inputs and latches are those of c, in order
pub record IsNamedAs (c : Graph) (r : Netlist) : Type 0 where
  pub inputs : r.symbols.inputs ≡ literal_names 1 c.inputs
  pub latches : r.symbols.latches ≡ literal_names (first_latch c) (length c.latches)

-- so over the circuit itself, which the names speak of
pub record IsLifted (c m w : Netlist) (k : Sharing) (r : Netlist) : Type 0 where
  pub over : IsLiftedOver c m w k r
  pub named : IsNamedAs c.aig r

-- b has as many inputs and latches as c, or more
pub record HasRoomFor (c b : Graph) : Type 0 where
  pub inputs : c.inputs ≤ b.inputs
  pub latches : length c.latches ≤ length b.latches
