-- Two circuits side by side over shared inputs, as a model of what they have in common.
use Rattle.std.specs.Prelude.{ℕ, ◌+◌, ◌<◌, ◌≡◌, ◌↔◌, ◌++◌, Bool, true, false, IsTrue, List, [], ◌∷◌, length, map, slice_get}
use Rattle.aig_graph.specs.declared.graph.Reset.{Reset}
use Rattle.aig_graph.specs.declared.graph.Reset.TheVariants.{Zero}
use Rattle.aig_graph.specs.Circuits.{Netlist, no_symbols}
use Rattle.aig_graph.specs.Graph.{Graph, free_latches, is_free_latch}
use Rattle.aig_graph.specs.Streams.{property_literals}
use Rattle.aig_graph.specs.Value.{value_within}
use Rattle.state_maps.specs.MapCircuits.{FreeStay, is_kept, mapped}
use Rattle.state_maps.specs.States.{Digits, IsAllowed, State, after_step}
use Rattle.witness_circuits.specs.Witnesses.{IsGood}
use Rattle.map_miters.specs.declared.goals.Goal.{Goal}
use Rattle.map_miters.specs.declared.goals.Goal.TheVariants.{Agree, Mapped}

-- what the second circuit's latches hold: they stand after those of the first
abbrev pub second_state : Graph → State → State
second_state c u = λ j. u (length c.latches + j)

-- the resets of both, and of a latch that tells the first step if free latches are tied
abbrev pub start_resets : Bool → List Reset
start_resets true = Zero ∷ []
start_resets false = []

-- the resets of the latches of both circuits, and of a latch that tells the first step if free
-- latches are tied
abbrev pub product_resets : Graph → Graph → Bool → List Reset
product_resets c d tied = map (λ latch. latch.reset) c.latches ++ map (λ latch. latch.reset) d.latches ++ start_resets tied

-- d has free latches, and each is one of c by the map, in their order
pub record AreTied (c d m : Netlist) : Type 0 where
  pub some : 0 < free_latches d.aig
  pub stay : FreeStay c d m

-- latch j of d holds what the map gives; so does each that is free
abbrev pub IsTied : Netlist → Netlist → ℕ → State → Type 0
IsTied c m j u = second_state c.aig u j ≡ mapped m u j

-- each free latch of d holds what the map gives
abbrev pub FreeAgree : Netlist → Netlist → Netlist → State → Type 0
FreeAgree c d m u = (j : ℕ) → is_free_latch (slice_get d.aig.latches j) ≡ true → IsTied c m j u

-- in the first step, which a latch tells that is 0 in it alone
abbrev pub StartsAlike : Netlist → Netlist → Netlist → Bool → State → Type 0
StartsAlike c d m tied u = tied ≡ true → u (length c.aig.latches + length d.aig.latches) ≡ false → FreeAgree c d m u

-- r has the inputs of c, and the latches of c and of d, with their resets and steps. It has one
-- more if free latches are tied.
pub record GoesBeside (c d : Graph) (tied : Bool) (r : Graph) : Type 0 where
  pub inputs : r.inputs ≡ c.inputs
  pub resets : map (λ latch. latch.reset) r.latches ≡ product_resets c d tied
  pub first : (z : Digits) (u : State) (j : ℕ) → j < length c.latches → after_step r z u j ≡ after_step c z u j
  pub second : (z : Digits) (u : State) (j : ℕ) → j < length d.latches → after_step r z u (length c.latches + j) ≡ after_step d z (second_state c u) j
  pub started : tied ≡ true → (z : Digits) (u : State) → after_step r z u (length c.latches + length d.latches) ≡ true

-- all properties of both have equal values
abbrev pub AgreeIn : Netlist → Netlist → Digits → State → Type 0
AgreeIn c d z u = map (value_within d.aig z (second_state c.aig u)) (property_literals d.props) ≡ map (value_within c.aig z u) (property_literals c.props)

-- the map's constraints are 1 in s, and it gives t
abbrev pub GivesState : Netlist → State → State → Type 0
GivesState m s t = is_kept m s × ((j : ℕ) → j < length m.props.outputs → mapped m s j ≡ t j)

-- the map's constraints are 1, and the latches of d hold what it gives
abbrev pub HoldsMapped : Netlist → Netlist → Netlist → State → Type 0
HoldsMapped c d m u = is_kept m u × ((j : ℕ) → j < length d.aig.latches → mapped m u j ≡ second_state c.aig u j)

-- By the goal: all properties of both circuits have equal values, or the map's constraints are 1
-- and d's latches hold what it gives.
abbrev pub good_of : Goal → Netlist → Netlist → Netlist → Digits → State → Type 0
good_of Agree c d m z u = AgreeIn c d z u
good_of Mapped c d m z u = HoldsMapped c d m u

-- r is c and d side by side, constrained so that tied latches start alike, and good if the goal is
-- met
pub record IsProduct (goal : Goal) (c d m r : Netlist) : Type 0 where
  pub tied : Bool
  pub ties : IsTrue tied ↔ AreTied c d m
  pub beside : GoesBeside c.aig d.aig tied r.aig
  pub names : r.symbols ≡ no_symbols
  pub allowed : (z : Digits) (u : State) → IsAllowed r z u ↔ StartsAlike c d m tied u
  pub good : (z : Digits) (u : State) → IsGood r z u ↔ good_of goal c d m z u
