-- A witness circuit lifted against the direction of a map.
use Rattle.std.specs.Prelude.{ℕ, ◌≡◌, List}
use Rattle.aig_graph.specs.Circuits.{Netlist, IsNetlist}
use Rattle.aig_graph.specs.Graph.{IsGraph, free_latches}
use Rattle.state_maps.specs.MapCircuits.{IsMapCircuit}
use Rattle.witness_circuits.specs.declared.sharing.Sharing.{Sharing}
use Rattle.witness_circuits.specs.Lifting.{IsLiftedOver}
use Rattle.witness_circuits.specs.LiftedLaws.{first_shared}
use Rattle.witness_circuits.specs.Witnesses.{IsSharing, IsWitness}
use Rattle.map_miters.specs.Beside.{IsBeside}
use Rattle.map_miters.specs.Turned.{IsTurned}

-- r is w, lifted over c and d beside each other by the map m turned round
pub record IsLiftedBack (c d m w : Netlist) (k : Sharing) (r : Netlist) : Type 0 where
  pub both : Netlist
  pub beside : IsBeside c d both
  pub turned : Netlist
  pub graph : IsGraph turned.aig
  pub netlist : IsNetlist turned
  pub turns : IsTurned c d m turned
  pub lifted : IsLiftedOver both turned w k r

-- if m maps d's states to those of c, which has no free latch, a witness circuit of d, lifted back,
-- is one of c
abbrev pub LiftsBack : Netlist → Netlist → List ℕ → Netlist → Netlist → Sharing → Netlist → Type 0
LiftsBack c d kept m w k r = IsGraph c.aig → IsNetlist c → IsGraph d.aig → free_latches c.aig ≡ 0 → IsMapCircuit d c kept m → IsSharing d w k → IsWitness d w k → IsLiftedBack c d m w k r
    → IsSharing c r (first_shared c r) × IsWitness c r (first_shared c r)
