-- Rounds stay within the limits of a header.
use Rattle.std.proofs.Common.{ℕ, ◌-◌, Bool, true, List, Option, length}
use Rattle.aig_graph.specs.Circuits.{Netlist}
use Rattle.aig_graph.specs.Keep.{Holding}
use Rattle.aig_graph.specs.declared.choice.Choice.{Choice}
use Rattle.ascii_file.specs.Laws.{IsWithinLimits}
use Rattle.frame_runs.proofs.LimitLaws.{stays-within}
use Rattle.retimed_circuits.specs.declared.report.Retimed.{Retimed}
use Rattle.merging_rounds.specs.Rounds.{AfterRuns, again, at_positions, first, frames_of}

-- what runs make of a circuit within them is within them
pub runs-limits : (merge : Bool) (bound : Option ℕ) (choice : Choice) (c : Netlist) (holding : Holding) (max_frames : ℕ) (certify : Bool) (runs : List Retimed) (d : Netlist) (kept now : List ℕ)
    → AfterRuns merge bound choice c holding max_frames certify runs d kept now → IsWithinLimits c → IsWithinLimits d
runs-limits merge bound choice c holding max_frames certify _ _ _ _ (first run now is) within = stays-within merge bound choice c holding max_frames certify run is.retimed within
runs-limits merge bound choice c holding max_frames certify _ _ _ _ (again runs d kept now later run before asked some is) within =
    stays-within true bound choice d (at_positions now) (max_frames - length (frames_of runs)) certify run is.retimed
    (runs-limits merge bound choice c holding max_frames certify runs d kept now before within)
