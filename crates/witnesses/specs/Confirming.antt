-- Whether the properties of a witness fail in a circuit and in what it was retimed to.
use Rattle.std.specs.Prelude.{ℕ, ◌≡◌, ◌==◌, Bool, false, List, length, Option, Some, None, Result, Ok, Err, slice_get}
use Rattle.aig_graph.specs.Circuits.{Netlist}
use Rattle.lane_sim.specs.declared.stimulus.InputSequence.{InputSequence}
use Rattle.witnesses.specs.declared.witness.Property.{Property}
use Rattle.witnesses.specs.declared.witness.Property.TheVariants.{Bad, Justice}
use Rattle.witnesses.specs.declared.witness.Reached.{Reached}
use Rattle.witnesses.specs.declared.witness.Witness.{Witness}
use Rattle.witnesses.specs.declared.confirming.Objection.{Objection}
use Rattle.witnesses.specs.declared.confirming.Confirmed.{Confirmed}
use Rattle.witnesses.specs.Carrying.{carried}
use Rattle.witnesses.specs.declared.confirming.Objection.TheVariants.{Unchecked, Unreached, Lost}
use Rattle.witnesses.specs.Reaching.{IsFirstReached, NeverReached}
use Rattle.witnesses.specs.Runs.{run_of, settled_witness}

abbrev pub is_step : Option ℕ → ℕ → Bool
is_step None step = false
is_step (Some found) step = found == step

-- bad state n is first reached at the step, by c under run and by d under other
pub record IsFirstInBoth (c d : Netlist) (run other : InputSequence) (n step : ℕ) : Type 0 where
  pub retimed : IsFirstReached d other n step
  pub original : IsFirstReached c run n step

-- d reaches it first at a step at which c doesn't
pub record IsLost (c d : Netlist) (run other : InputSequence) (n : ℕ) : Type 0 where
  pub step : ℕ
  pub retimed : IsFirstReached d other n step
  pub original : IsFirstReached c run n step → ⊥

-- what is said of a property
abbrev pub IsAgreed : Netlist → Netlist → InputSequence → InputSequence → Property → Result Reached Objection → Type 0
IsAgreed c d run other (Bad n) (Ok reached) = (reached.property ≡ Bad n) × IsFirstInBoth c d run other n reached.step
IsAgreed c d run other (Bad n) (Err (Unreached p)) = (p ≡ Bad n) × NeverReached d other n
IsAgreed c d run other (Bad n) (Err (Lost p)) = (p ≡ Bad n) × IsLost c d run other n
IsAgreed c d run other (Bad n) (Err (Unchecked p)) = ⊥
IsAgreed c d run other (Justice n) (Err (Unchecked p)) = p ≡ Justice n
IsAgreed c d run other (Justice n) found = ⊥

-- that of each property, in order
abbrev pub AgreeEach : Netlist → Netlist → InputSequence → InputSequence → List Property → List Reached → Type 0
AgreeEach c d run other properties reached =
    (i : ℕ) (p : Property) (r : Reached) → slice_get properties i ≡ Some p → slice_get reached i ≡ Some r → IsAgreed c d run other p (Ok r)

-- each of the properties was reached at one step by both circuits
pub record AreAgreed (c d : Netlist) (run other : InputSequence) (properties : List Property) (reached : List Reached) : Type 0 where
  pub many : length reached ≡ length properties
  pub each : AgreeEach c d run other properties reached

-- the objection is to one of the properties
pub record IsObjected (c d : Netlist) (run other : InputSequence) (properties : List Property) (objection : Objection) : Type 0 where
  pub place : ℕ
  pub property : Property
  pub here : slice_get properties place ≡ Some property
  pub objected : IsAgreed c d run other property (Err objection)

-- the first step at which each property fails in both circuits, or an objection to one
abbrev pub IsConfirmation : Netlist → Netlist → InputSequence → InputSequence → List Property → Result (List Reached) Objection → Type 0
IsConfirmation c d run other properties (Ok reached) = AreAgreed c d run other properties reached
IsConfirmation c d run other properties (Err objection) = IsObjected c d run other properties objection

abbrev pub with_reached : Witness → Result (List Reached) Objection → Result Confirmed Objection
with_reached w (Ok reached) = Ok (record { witness = w; reached = reached })
with_reached w (Err objection) = Err objection

-- the witness w of d carried back to c, with 0 for each x
abbrev pub settled_back : Netlist → Netlist → List ℕ → Witness → Witness
settled_back c d kept w = settled_witness (carried c.aig d.aig kept w)

-- that witness, and what is said of its properties, with c simulated as it says
pub record IsConfirmedBack (c d : Netlist) (kept : List ℕ) (w : Witness) (found : Result Confirmed Objection) : Type 0 where
  pub said : Result (List Reached) Objection
  pub is : found ≡ with_reached (settled_back c d kept w) said
  pub agreed : IsConfirmation c d (run_of c.aig (settled_back c d kept w)) (run_of d.aig w) w.properties said
