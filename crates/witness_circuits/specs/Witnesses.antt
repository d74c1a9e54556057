-- Witness circuits of a model, and their five checks.
use Rattle.std.specs.Prelude.{ℕ, ◌<◌, ◌≡◌, Bool, false, List, [], ◌∷◌, length, map, All, slice_get, Option, Some}
use Rattle.aig_graph.specs.declared.graph.Latch.{Latch}
use Rattle.aig_graph.specs.declared.properties.Props.{Props}
use Rattle.aig_graph.specs.Circuits.{Netlist}
use Rattle.aig_graph.specs.Value.{Choice, opening, value_within}
use Rattle.state_maps.specs.States.{Digits, IsAllowed, State, after_step, opening_state}
use Rattle.witness_circuits.specs.declared.sharing.Sharing.{Sharing}

-- the places are those of inputs and latches of the model
pub record IsSharing (c w : Netlist) (k : Sharing) : Type 0 where
  pub inputs : length k.inputs ≡ w.aig.inputs
  pub latches : length k.latches ≡ length w.aig.latches
  pub inputs_below : (i place : ℕ) → slice_get k.inputs i ≡ Some (Some place) → place < c.aig.inputs
  pub latches_below : (j place : ℕ) → slice_get k.latches j ≡ Some (Some place) → place < length c.aig.latches

-- what is shared has one value
abbrev pub Agree : List (Option ℕ) → (ℕ → Bool) → (ℕ → Bool) → Type 0
Agree places model witness = (k place : ℕ) → slice_get places k ≡ Some (Some place) → witness k ≡ model place

-- a step of the model and one of the witness
abbrev pub AreJoint : Sharing → Digits → State → Digits → State → Type 0
AreJoint k x s y t = Agree k.inputs x y × Agree k.latches s t

-- the bad states: the outputs, if a file has none
abbrev pub bad_or : List ℕ → List ℕ → List ℕ
bad_or [] outputs = outputs
bad_or (lit ∷ lits) outputs = lit ∷ lits

-- the bad states; in a circuit without any they are the outputs
abbrev pub bad_states : Props → List ℕ
bad_states p = bad_or p.bad p.outputs

-- none of them is 1
abbrev pub IsGood : Netlist → Digits → State → Type 0
IsGood c x s = All (λ b. b ≡ false) (map (value_within c.aig x s) (bad_states c.props))

-- the shared latches hold the witness's resets
abbrev pub HasResets : Netlist → List (Option ℕ) → State → Type 0
HasResets w places t = (j place : ℕ) (latch : Latch) → slice_get places j ≡ Some (Some place) → slice_get w.aig.latches j ≡ Some latch → opening latch.reset (t j) ≡ t j

-- the shared latches go on to u as the witness's do
abbrev pub GoesOn : Netlist → List (Option ℕ) → Digits → State → State → Type 0
GoesOn w places y t u = (j place : ℕ) (latch : Latch) → slice_get places j ≡ Some (Some place) → slice_get w.aig.latches j ≡ Some latch → u j ≡ value_within w.aig y t latch.next

-- The five checks. A first state of c is one of what w shares, and w's constraints hold. A step of
-- c is one of what w shares, and w's constraints go on to hold. If w's state is good, so is c's.
-- w's first states are good. A step of w keeps a state good.
pub record IsWitness (c w : Netlist) (k : Sharing) : Type 0 where
  pub reset : (f : Choice) (x y : Digits) (t : State) → AreJoint k x (opening_state c.aig f) y t → IsAllowed c x (opening_state c.aig f)
      → HasResets w k.latches t × IsAllowed w y t
  pub transition : (x later y y_later : Digits) (s t u : State) → AreJoint k x s y t → AreJoint k later (after_step c.aig x s) y_later u
      → IsAllowed c x s → IsAllowed c later (after_step c.aig x s) → IsAllowed w y t → GoesOn w k.latches y t u × IsAllowed w y_later u
  pub property : (x y : Digits) (s t : State) → AreJoint k x s y t → IsAllowed c x s → IsAllowed w y t → IsGood w y t → IsGood c x s
  pub base : (f : Choice) (y : Digits) → IsAllowed w y (opening_state w.aig f) → IsGood w y (opening_state w.aig f)
  pub step : (y later : Digits) (t : State) → IsGood w y t → IsAllowed w y t → IsAllowed w later (after_step w.aig y t) → IsGood w later (after_step w.aig y t)
