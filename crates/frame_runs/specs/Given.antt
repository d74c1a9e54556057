-- A circuit that is given to a run.
use Rattle.aig_graph.specs.Circuits.{Netlist}
use Rattle.frame_runs.specs.declared.given.GivenCircuit.{GivenCircuit}
use Rattle.frame_runs.specs.declared.given.GivenCircuit.TheVariants.{Lent, Owned}

-- the circuit, however it was given
abbrev pub circuit_of : GivenCircuit → Netlist
circuit_of (Lent circuit) = circuit.now
circuit_of (Owned circuit) = circuit
