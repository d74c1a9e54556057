-- Circuits and maps among shared gates.
use Rattle.std.specs.Prelude.{ℕ, ◌+◌, ◌*◌, ◌<◌, ◌≤◌, ◌≡◌, Bool, true, false, List, length, map, All}
use Rattle.std.specs.List.{slice_index_or}
use Rattle.aig_graph.specs.declared.graph.Latch.{Latch}
use Rattle.aig_graph.specs.Graph.{Graph, variable, first_latch, variables_end}
use Rattle.aig_graph.specs.Circuits.{Netlist}
use Rattle.aig_graph.specs.Value.{value_within}
use Rattle.state_maps.specs.States.{Digits, State, after_step}
use Rattle.state_maps.specs.MapCircuits.{is_kept, mapped}
use Rattle.aig_graph.specs.Gates.{Gates, IsNegated, Respects, gates_of}
use Rattle.gate_sharing.specs.Equal.{Equal, IsRight}
use Rattle.gate_sharing.specs.Copies.{AreShared, Copy, CopiesValues, copied_end, copy_of}

-- the next literals of latches
abbrev pub nexts_of : List Latch → List ℕ
nexts_of latches = map (λ latch. latch.next) latches

-- the literals that another copy has for these, from a variable on
abbrev pub copy_of_literals : ℕ → Copy → List ℕ → Copy
copy_of_literals first c lits = record { first = first; literals = map (copy_of c) lits }

-- values of the shared literals, if the inputs and latches of c have these, and the substitute of a
-- variable has its value
pub record Views (k : Gates) (e : Equal) (c : Graph) (x : Digits) (s : State) (values : ℕ → Bool) : Type 0 where
  pub respects : Respects k values
  pub right : IsRight e values
  pub inputs : (i : ℕ) → i < c.inputs → values (2 * (1 + i)) ≡ x i
  pub latches : (j : ℕ) → j < length c.latches → values (2 * (first_latch c + j)) ≡ s j

-- what stands for each latch of c, from a variable on
pub record StandForLatches (e : Equal) (c : Graph) (first : ℕ) (leaves : Copy) : Type 0 where
  pub from : leaves.first ≡ first
  pub long : length leaves.literals ≡ length c.latches
  pub below : (j : ℕ) → j < length c.latches → variable (slice_index_or leaves.literals j 0) ≤ first_latch c + j
  pub values : (values : ℕ → Bool) → IsNegated values → IsRight e values → (j : ℕ) → j < length c.latches
      → values (slice_index_or leaves.literals j 0) ≡ values (2 * (first_latch c + j))

-- a copy of a graph whose literals have the values that `own` gives, for each state of c
pub record IsFaithfulCopy (k : Gates) (e : Equal) (c g : Graph) (own : Digits → State → ℕ → Bool) (copy : Copy) : Type 0 where
  pub long : copied_end copy ≡ variables_end g
  pub within : AreShared k copy
  pub follows : (values : ℕ → Bool) (x : Digits) (s : State) → Views k e c x s values → CopiesValues copy (variables_end g) values (own x s)

-- the values of a map's literals in a state, of a circuit's literals, of the map's a step later,
-- and of the mapped circuit's
abbrev pub in_map : Netlist → Digits → State → ℕ → Bool
in_map m x s = value_within m.aig s (λ j. false)

-- the values of literals in a step of the first circuit
abbrev pub in_first : Netlist → Digits → State → ℕ → Bool
in_first c x s = value_within c.aig x s

-- the values of the map's literals, a step later
abbrev pub in_map_later : Netlist → Netlist → Digits → State → ℕ → Bool
in_map_later c m x s = value_within m.aig (after_step c.aig x s) (λ j. false)

-- the values of literals of the second circuit, in the state that the map gives
abbrev pub in_second_mapped : Netlist → Netlist → Digits → State → ℕ → Bool
in_second_mapped d m x s = value_within d.aig x (mapped m s)

-- if the constraints are 1, the substitute of a variable has its value
abbrev pub Assumes : Netlist → Copy → Equal → Equal → Type 0
Assumes m image e f = (values own : ℕ → Bool) → IsNegated values → Respects (gates_of m.aig) own → CopiesValues image (variables_end m.aig) values own
    → All (λ lit. own lit ≡ true) m.props.constraints → IsRight e values → IsRight f values

-- learnt of the map over the latches of c
abbrev pub Learns : Gates → Graph → Netlist → Equal → Equal → Type 0
Learns k c m e f = (values : ℕ → Bool) (x : Digits) (s : State) → Views k e c x s values → is_kept m s → IsRight f values

-- each copy is of all variables
pub record AreWholeCopies (c d m : Netlist) (before later after : Copy) : Type 0 where
  pub of_first : copied_end before ≡ variables_end c.aig
  pub of_map : copied_end later ≡ variables_end m.aig
  pub of_second : copied_end after ≡ variables_end d.aig

-- The copies that are compared. If the constraints hold, each has the values of what it is a copy
-- of, and the substitute of a variable then has its value.
pub record AreComparedCopies (k : Gates) (e f : Equal) (c d m : Netlist) (before later after : Copy) : Type 0 where
  pub long : AreWholeCopies c d m before later after
  pub right : (values : ℕ → Bool) (x : Digits) (s : State) → Views k e c.aig x s values → is_kept m s → IsRight f values
  pub follows : (values : ℕ → Bool) (x : Digits) (s : State) → Views k e c.aig x s values → is_kept m s
      → CopiesValues before (variables_end c.aig) values (in_first c x s)
      × CopiesValues later (variables_end m.aig) values (in_map_later c m x s)
      × CopiesValues after (variables_end d.aig) values (in_second_mapped d m x s)
