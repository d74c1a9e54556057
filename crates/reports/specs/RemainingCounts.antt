-- What a retiming leaves.
use Rattle.std.specs.Prelude.{ℕ, Bool, List, Option}
use Rattle.aig_graph.specs.Circuits.{Netlist}
use Rattle.reports.specs.CircuitCounts.{counts}
use Rattle.reports.specs.HeldBack.{held_back_within}
use Rattle.reports.specs.declared.remaining_counts.Remaining.{Remaining}

-- what a circuit has, why its latches don't move, by held positions and bound, and whether no set
-- leaves fewer
unfoldable pub remaining : Netlist → List ℕ → Option ℕ → Bool → Remaining
remaining c held bound is_least = record { counts = counts c; held_back = held_back_within bound c held; is_least = is_least }
