-- What the answers to the questions of a map show, and which maps have them.
use Rattle.std.specs.Prelude.{ℕ, ◌-◌, ◌<◌, ◌≡◌, false, List, map}
use Rattle.aig_graph.specs.Circuits.{IsNetlist, Netlist}
use Rattle.aig_graph.specs.Graph.{Graph, IsGraph, free_before, variable}
use Rattle.aig_graph.specs.Streams.{SameStreams}
use Rattle.state_maps.specs.MapCircuits.{FreeStay, IsMapCircuit, free_outputs}
use Rattle.state_maps.specs.States.{Digits, State}
use Rattle.witness_circuits.specs.Witnesses.{IsSharing, IsWitness}
use Rattle.witness_circuits.specs.LiftedLaws.{first_shared}
use Rattle.map_miters.specs.Questions.{Begins, IsAskable, Keeps, Reads, Steps}
use Rattle.map_miters.specs.declared.goals.Goal.TheVariants.{Agree, Mapped}
use Rattle.map_miters.specs.Miters.{IsMiter, output_in}
use Rattle.map_miters.specs.Products.{IsProduct}

-- each question of the map has the answer that it should, in every state and under all inputs
pub record MeetsQuestions (c d m : Netlist) : Type 0 where
  pub reset : (s : State) → Begins c d m s
  pub keep : (x : Digits) (s : State) → Keeps c m x s
  pub next : (x : Digits) (s : State) → Steps c d m x s
  pub read : (x : Digits) (s : State) → Reads c d m x s

-- if they have, the machine by the map is a witness circuit for the model
abbrev pub ShowsAgreement : Netlist → Netlist → Netlist → Netlist → Netlist → Type 0
ShowsAgreement c d m p w = IsGraph c.aig → IsGraph d.aig → IsNetlist d → IsGraph m.aig → IsNetlist m → IsGraph p.aig → IsGraph w.aig → IsNetlist w → IsAskable c d m → MeetsQuestions c d m
    → IsProduct Agree c d m p → IsProduct Mapped c d m w → IsSharing p w (first_shared p w) × IsWitness p w (first_shared p w)

-- the places, among the free latches of g, of those that the inputs with these literals stand for
abbrev pub free_places : Graph → List ℕ → List ℕ
free_places g lits = map (λ lit. free_before g (variable lit - 1)) lits

-- if they have, d has c's streams; its free latches are those of c that the map gives for them
abbrev pub GiveStreams : Netlist → Netlist → Netlist → Type 0
GiveStreams c d m = IsGraph m.aig → IsAskable c d m → MeetsQuestions c d m → SameStreams c d (free_places c.aig (free_outputs d.aig.latches m.props.outputs))

-- a map of states by which free latches stay has the answers
abbrev pub MapsMeetQuestions : Netlist → Netlist → List ℕ → Netlist → Type 0
MapsMeetQuestions c d kept m = IsMapCircuit c d kept m → FreeStay c d m → MeetsQuestions c d m

-- none of the four outputs is 1, whatever the inputs are: what a solver says that finds no solution
abbrev pub IsNeverOne : Netlist → Type 0
IsNeverOne r = (z : Digits) (k : ℕ) → k < 4 → output_in r k z ≡ false

-- a miter that is never 1 says that the map has the answers
abbrev pub MitersAnswer : Netlist → Netlist → Netlist → Netlist → Type 0
MitersAnswer c d m r = IsGraph c.aig → IsNetlist c → IsGraph d.aig → IsNetlist d → IsAskable c d m → IsMiter c d m r → IsNeverOne r → MeetsQuestions c d m

-- the miter of a map of states by which free latches stay is never 1
abbrev pub MapsAreNeverOne : Netlist → Netlist → List ℕ → Netlist → Netlist → Type 0
MapsAreNeverOne c d kept m r = IsMapCircuit c d kept m → FreeStay c d m → IsMiter c d m r → IsNeverOne r
