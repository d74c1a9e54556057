-- What a lifted witness is.
use Rattle.std.specs.Prelude.{ℕ, ◌-◌, ◌++◌, List, length, map, replicate, Some, None, Option}
use Rattle.std.specs.List.{range_with_len}
use Rattle.aig_graph.specs.Circuits.{Netlist, IsNetlist}
use Rattle.aig_graph.specs.Graph.{IsGraph}
use Rattle.state_maps.specs.MapCircuits.{IsMapCircuit}
use Rattle.witness_circuits.specs.declared.sharing.Sharing.{Sharing}
use Rattle.witness_circuits.specs.Witnesses.{IsSharing, IsWitness}
use Rattle.witness_circuits.specs.Lifting.{IsLifted}

-- the first n of all are the model's, in order
abbrev pub first_places : ℕ → ℕ → List (Option ℕ)
first_places n all = map (λ i. Some i) (range_with_len 0 n) ++ replicate (all - n) None

-- the first inputs and latches are the model's, in order
abbrev pub first_shared : Netlist → Netlist → Sharing
first_shared c r = record { inputs = first_places c.aig.inputs r.aig.inputs; latches = first_places (length c.aig.latches) (length r.aig.latches) }

-- a witness circuit of d, lifted by a map of c's states to d's, is one of c
abbrev pub LiftsWitnesses : Netlist → Netlist → List ℕ → Netlist → Netlist → Sharing → Netlist → Type 0
LiftsWitnesses c d kept m w k r = IsGraph c.aig → IsNetlist c → IsGraph r.aig → IsMapCircuit c d kept m → IsSharing d w k → IsWitness d w k → IsLifted c m w k r
    → IsSharing c r (first_shared c r) × IsWitness c r (first_shared c r)
