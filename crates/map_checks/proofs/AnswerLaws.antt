-- What a check shows: a map of states, and so equal streams.
use Rattle.std.proofs.Common.{◌≡◌, List, [], ℕ}
use Rattle.aig_graph.specs.Circuits.{Netlist, IsNetlist}
use Rattle.aig_graph.specs.Graph.{IsGraph}
use Rattle.aig_graph.specs.Streams.{SameStreams}
use Rattle.state_maps.specs.States.{IsStateMap}
use Rattle.state_maps.specs.MapCircuits.{IsMapCircuit, is_kept, mapped}
use Rattle.state_maps.proofs.MapLaws.{maps-give-streams}
use Rattle.map_checks.specs.Answers.{AreFitting, MapsFirstStates, KeepsStates}

-- a fitting map that begins at first states and keeps steps is a map of states, and both circuits
-- have equal streams
pub shows : (c d m : Netlist) (kept : List ℕ) → IsGraph m.aig → IsNetlist m → m.aig.latches ≡ [] → AreFitting c d m → MapsFirstStates c d m kept → KeepsStates c d m → IsMapCircuit c d kept m × SameStreams c d kept
shows c d m kept graph netlist combinational fitting begins keeps =
    let maps : IsStateMap c d kept (is_kept m) (mapped m) = record { holds_first = begins.holds; first = begins.states; keeps = keeps.keeps; steps = keeps.steps; reads = keeps.reads } in (
      record { graph = graph; netlist = netlist; inputs = fitting.inputs; latches = combinational; outputs = fitting.outputs; maps = maps },
      record { shape = fitting.shape; places = begins.places; values = maps-give-streams c d kept (is_kept m) (mapped m) maps },
    )
