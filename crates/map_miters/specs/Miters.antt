-- The miter of a map of states: a circuit without latches whose outputs are 1 if the map fails.
use Rattle.std.specs.Prelude.{ℕ, ◌+◌, ◌≡◌, ◌↔◌, Bool, false, List, [], ◌∷◌, length, codes}
use Rattle.std.specs.List.{slice_index_or}
use Rattle.aig_graph.specs.declared.properties.Symbol.{Symbol}
use Rattle.aig_graph.specs.declared.properties.Symbols.{Symbols}
use Rattle.aig_graph.specs.Circuits.{Netlist, outputs_alone}
use Rattle.aig_graph.specs.Graph.{Graph}
use Rattle.aig_graph.specs.Value.{value_within}
use Rattle.state_maps.specs.States.{Digits, State}
use Rattle.map_miters.specs.declared.questions.Failures.{Failures}
use Rattle.map_miters.specs.declared.assembling.Asked.{Asked}
use Rattle.map_miters.specs.Asking.{asked_state}
use Rattle.map_miters.specs.Questions.{AreFailures, Begins, Keeps, Reads, Steps}

-- what the latches of c hold, by the inputs after c's own
abbrev pub state_in : Graph → Digits → State
state_in c z = λ j. z (c.inputs + j)

-- output k, by the digits of the inputs
abbrev pub output_in : Netlist → ℕ → Digits → Bool
output_in r k z = value_within r.aig z (λ j. false) (slice_index_or r.props.outputs k 0)

-- the output at place k, with this name
abbrev pub question_name : ℕ → List ℕ → Symbol
question_name k name = record { position = k; name = name }

-- the four names, in that order
abbrev pub question_names : List Symbol
question_names = question_name 0 (codes "reset") ∷ question_name 1 (codes "keep") ∷ question_name 2 (codes "next") ∷ question_name 3 (codes "read") ∷ []

-- the four outputs, in that order
abbrev pub failure_list : Failures → List ℕ
failure_list f = f.reset ∷ f.keep ∷ f.next ∷ f.read ∷ []

-- the graph with these outputs and names
abbrev pub miter_with : Graph → List ℕ → Symbols → Netlist
miter_with g outputs symbols = record { aig = g; props = outputs_alone outputs; symbols = symbols }

-- a graph of the inputs of c and one for each of its latches, whose outputs are 1 if the map fails
pub record AsksIn (g : Graph) (c d m : Netlist) (outputs : List ℕ) : Type 0 where
  pub inputs : g.inputs ≡ c.aig.inputs + length c.aig.latches
  pub latches : g.latches ≡ []
  pub failures : Failures
  pub are : outputs ≡ failure_list failures
  pub fail : AreFailures g c d m (asked_state c.aig) failures

-- a graph of the inputs of c and one input for each of its latches, with these outputs
abbrev pub IsAsked : Netlist → Netlist → Netlist → Asked → Type 0
IsAsked c d m asked = AsksIn asked.gates c d m asked.outputs.items

-- r has c's inputs, then one for each latch of c, and four outputs, each 0 exactly if its question
-- has the right answer
pub record IsMiter (c d m r : Netlist) : Type 0 where
  pub inputs : r.aig.inputs ≡ c.aig.inputs + length c.aig.latches
  pub latches : r.aig.latches ≡ []
  pub outputs : length r.props.outputs ≡ 4
  pub names : r.symbols.outputs ≡ question_names
  pub reset : (z : Digits) → (output_in r 0 z ≡ false) ↔ Begins c d m (state_in c.aig z)
  pub keep : (z : Digits) → (output_in r 1 z ≡ false) ↔ Keeps c m z (state_in c.aig z)
  pub next : (z : Digits) → (output_in r 2 z ≡ false) ↔ Steps c d m z (state_in c.aig z)
  pub read : (z : Digits) → (output_in r 3 z ≡ false) ↔ Reads c d m z (state_in c.aig z)
