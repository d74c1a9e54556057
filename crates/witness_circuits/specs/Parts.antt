-- The three circuits as parts of one graph.
use Rattle.std.specs.Prelude.{ℕ, ◌+◌, ◌*◌, ◌<◌, ◌≡◌, ◌++◌, ◌↔◌, Bool, true, false, List, [], ◌∷◌, length, map, All, slice_get, Some}
use Rattle.std.specs.List.{slice_index_or}
use Rattle.aig_graph.specs.declared.graph.Latch.{Latch}
use Rattle.aig_graph.specs.declared.graph.Reset.{Reset}
use Rattle.aig_graph.specs.declared.properties.Props.{Props}
use Rattle.aig_graph.specs.Circuits.{AreLiteralsOf, ArePropsOf, Netlist}
use Rattle.aig_graph.specs.Graph.{Graph, variable, variables_end}
use Rattle.aig_graph.specs.Value.{value_within}
use Rattle.state_maps.specs.States.{Digits, IsAllowed, State}
use Rattle.state_maps.specs.MapCircuits.{is_kept}
use Rattle.witness_circuits.specs.declared.sharing.Sharing.{Sharing}
use Rattle.witness_circuits.specs.Joining.{joined, own_at, own_count}
use Rattle.witness_circuits.specs.Witnesses.{IsGood, bad_states}
use Rattle.map_circuits.specs.Instances.{substitute}
use Rattle.witness_circuits.specs.declared.parts.Parts.{Parts}
use Rattle.aig_graph.specs.Tables.{table}
use Rattle.witness_circuits.specs.Literals.{AreSources, negated}
use Rattle.witness_circuits.specs.Lifting.{in_circuit, in_witness, witness_digits, witness_state}

-- a witness that shares inputs of c, and latches among `outputs`
pub record IsFitting (c : Graph) (outputs : ℕ) (w : Graph) (k : Sharing) : Type 0 where
  pub inputs : length k.inputs ≡ w.inputs
  pub latches : length k.latches ≡ length w.latches
  pub inputs_below : (i place : ℕ) → slice_get k.inputs i ≡ Some (Some place) → place < c.inputs
  pub latches_below : (j place : ℕ) → slice_get k.latches j ≡ Some (Some place) → place < outputs

-- a map over the latches of c, and a witness that shares c's inputs and latches that the map gives
pub record IsLiftable (c m w : Netlist) (k : Sharing) : Type 0 where
  pub map_inputs : m.aig.inputs ≡ length c.aig.latches
  pub map_latches : m.aig.latches ≡ []
  pub shares : IsFitting c.aig (length m.props.outputs) w.aig k

-- a graph with the inputs and latches of c, and after them the witness's own
pub record HasPlaces (h : Graph) (c : Graph) (k : Sharing) : Type 0 where
  pub inputs : h.inputs ≡ c.inputs + own_count k.inputs
  pub latches : length h.latches ≡ length c.latches + own_count k.latches

-- in each step of h what stands for the literals of g has the values that these have by `own`
pub record IsView (h g : Graph) (own : Digits → State → ℕ → Bool) (literals : List ℕ) : Type 0 where
  pub many : length literals ≡ variables_end g
  pub within : AreLiteralsOf h literals
  pub values : (z : Digits) (u : State) (lit : ℕ) → variable lit < variables_end g → value_within h z u (substitute literals lit) ≡ own z u lit

-- the literals that stand for the constant, the inputs and the latches: the first inputs, and the
-- latches from a first variable on
abbrev pub first_leaves : ℕ → Graph → List ℕ
first_leaves at c = 0 ∷ (table 0 c.inputs (λ i. 2 * (1 + i)) ++ table 0 (length c.latches) (λ j. 2 * (at + j)))

-- for the inputs of a map, the latches
abbrev pub map_leaves : ℕ → Graph → List ℕ
map_leaves at m = 0 ∷ (table 0 m.inputs (λ j. 2 * (at + j)) ++ [])

-- for a witness: what it shares, the latches as these literals, and its own after those of c
pub record AreWitnessLeaves (at : ℕ) (c : Graph) (outputs : List ℕ) (k : Sharing) (leaves : List ℕ) : Type 0 where
  pub inputs : List ℕ
  pub latches : List ℕ
  pub are : leaves ≡ 0 ∷ (inputs ++ latches)
  pub of_inputs : AreSources k.inputs (table 0 c.inputs (λ i. 2 * (1 + i))) (1 + c.inputs) inputs
  pub of_latches : AreSources k.latches outputs (at + length c.latches) latches

-- the values of a map's literals, over the latches
abbrev pub over_latches : Graph → Digits → State → ℕ → Bool
over_latches g z u = value_within g u (λ j. false)

-- the values of a witness's literals, if it shares latches that hold what these literals are
abbrev pub held_by : Graph → List ℕ → Digits → State → State
held_by h lits z u = λ j. slice_index_or (map (value_within h z u) lits) j false

-- the values of a witness's literals over what is shared
abbrev pub in_shared : Graph → List ℕ → Graph → Graph → Sharing → Digits → State → ℕ → Bool
in_shared h outputs c w k z u =
    value_within w (joined k.inputs z (λ i. z (own_at c.inputs k.inputs i))) (joined k.latches (held_by h outputs z u) (λ j. u (own_at (length c.latches) k.latches j)))

-- views of all three circuits
pub record AreParts (h : Graph) (c m w : Netlist) (k : Sharing) (p : Parts) : Type 0 where
  pub first : IsView h c.aig (in_circuit c) p.first
  pub map : IsView h m.aig (over_latches m.aig) p.map
  pub witness : IsView h w.aig (in_witness c m w k) p.witness

-- what stands for these literals
abbrev pub substitutes : List ℕ → List ℕ → List ℕ
substitutes literals lits = map (substitute literals) lits

-- what a good state has to be: the constraints of the map and of the witness, and no bad state of
-- the witness
abbrev pub demands : Netlist → Netlist → Parts → List ℕ
demands m w p = map (substitute p.map) m.props.constraints ++ map (substitute p.witness) w.props.constraints ++ map (λ lit. negated (substitute p.witness lit)) (bad_states w.props)

-- what the constraints and the bad states of the lifted witness say
pub record AreLiftedProps (h : Graph) (c m w : Netlist) (k : Sharing) (p : Props) : Type 0 where
  pub within : ArePropsOf h p
  pub outputs : p.outputs ≡ []
  pub justice : p.justice ≡ []
  pub fairness : p.fairness ≡ []
  pub allowed : (z : Digits) (u : State) → All (λ b. b ≡ true) (map (value_within h z u) p.constraints) ↔ IsAllowed c z u
  pub good : (z : Digits) (u : State) → All (λ b. b ≡ false) (map (value_within h z u) (bad_states p))
      ↔ (is_kept m u × IsAllowed w (witness_digits c k z) (witness_state c m k u) × IsGood w (witness_digits c k z) (witness_state c m k u))

-- latches with these resets, those of c and of the witness's own
abbrev pub both_resets : List Latch → List Latch → List Reset
both_resets first own = map (λ latch. latch.reset) first ++ map (λ latch. latch.reset) own

-- what stands for their next literals
abbrev pub both_nexts : Parts → List Latch → List Latch → List ℕ
both_nexts p first own = map (λ latch. substitute p.first latch.next) first ++ map (λ latch. substitute p.witness latch.next) own
