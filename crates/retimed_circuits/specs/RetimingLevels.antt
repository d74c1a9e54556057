-- The levels of a circuit that is retimed under a bound on path length.
use Rattle.std.specs.Prelude.{ℕ, ◌≤◌, ⊤, Bool, Option, Some, None, max}
use Rattle.aig_graph.specs.Circuits.{Netlist, IsNetlist}
use Rattle.aig_graph.specs.Graph.{IsGraph}
use Rattle.aig_graph.specs.Keep.{Holding}
use Rattle.aig_graph.specs.declared.choice.Choice.{Choice}
use Rattle.path_levels.specs.Levels.{levels}
use Rattle.retimed_circuits.specs.Retiming.{IsRetimedWith}
use Rattle.retimed_circuits.specs.declared.report.Retimed.{Retimed}

-- d has no path longer than both the bound and c's longest; without a bound nothing is said
abbrev pub KeepsLevels : Option ℕ → Netlist → Netlist → Type 0
KeepsLevels None c d = ⊤
KeepsLevels (Some bound) c d = levels d ≤ max bound (levels c)

-- a retimed circuit keeps the bound that it was retimed under
abbrev pub RetimingKeepsLevels : Type 0
RetimingKeepsLevels = (merge : Bool) (bound : Option ℕ) (choice : Choice) (c : Netlist) (holding : Holding) (max_frames : ℕ) (certify : Bool) (r : Retimed)
    → IsGraph c.aig → IsNetlist c → IsRetimedWith merge bound choice c holding max_frames certify r → KeepsLevels bound c r.circuit
