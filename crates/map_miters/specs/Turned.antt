-- A map turned round.
use Rattle.std.specs.Prelude.{ℕ, ◌+◌, ◌*◌, ◌<◌, ◌≡◌, ◌↔◌, [], ◌∷◌, length}
use Rattle.aig_graph.specs.Tables.{table}
use Rattle.aig_graph.specs.declared.properties.Props.{Props}
use Rattle.aig_graph.specs.Circuits.{Netlist}
use Rattle.aig_graph.specs.Graph.{Graph, IsGraph}
use Rattle.state_maps.specs.MapCircuits.{is_kept, mapped}
use Rattle.state_maps.specs.States.{State}
use Rattle.map_miters.specs.Comparing.{SaysThat}
use Rattle.map_miters.specs.Products.{GivesState, second_state}

-- circuits of equal numbers of inputs, and one without latches, with an input for each latch of d
-- and an output for each of c
pub record IsTurnable (c d m : Netlist) : Type 0 where
  pub inputs : d.aig.inputs ≡ c.aig.inputs
  pub map_inputs : m.aig.inputs ≡ length d.aig.latches
  pub map_latches : m.aig.latches ≡ []
  pub map_outputs : length m.props.outputs ≡ length c.aig.latches

-- t reads the latches of c and then those of d, and gives those of d. Its constraint is that m
-- holds of these, and gives those of c.
pub record IsTurned (c d m t : Netlist) : Type 0 where
  pub inputs : t.aig.inputs ≡ length c.aig.latches + length d.aig.latches
  pub latches : t.aig.latches ≡ []
  pub outputs : length t.props.outputs ≡ length d.aig.latches
  pub gives : (s : State) (j : ℕ) → j < length d.aig.latches → mapped t s j ≡ second_state c.aig s j
  pub kept : (s : State) → is_kept t s ↔ GivesState m (second_state c.aig s) s

-- the map turned round, as it is put together
pub record IsTurnedIn (h : Graph) (c d m : Netlist) (p : Props) : Type 0 where
  pub graph : IsGraph h
  pub inputs : h.inputs ≡ length c.aig.latches + length d.aig.latches
  pub latches : h.latches ≡ []
  pub holds : ℕ
  pub props : p ≡ record { outputs = table 0 (length d.aig.latches) (λ j. 2 * (1 + length c.aig.latches + j)); bad = []; constraints = holds ∷ []; justice = []; fairness = [] }
  pub says : SaysThat h holds (λ z u. GivesState m (second_state c.aig z) z)
