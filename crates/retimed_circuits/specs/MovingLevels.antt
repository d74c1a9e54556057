-- The levels of a circuit whose latches have moved.
use Rattle.std.specs.Prelude.{ℕ, ◌≤◌, List, max}
use Rattle.aig_graph.specs.Graph.{IsGraph}
use Rattle.aig_graph.specs.Circuits.{Netlist, IsNetlist}
use Rattle.aig_graph.specs.Move.{move_of}
use Rattle.rebuild.specs.Moved.{moved_of}
use Rattle.path_levels.specs.Levels.{levels}
use Rattle.path_levels.specs.Arrivals.{IsClosedWithin}

-- a move over gates that arrive within the bound leaves no path longer than both it and the longest
-- before
abbrev pub MovingKeepsLevels : Type 0
MovingKeepsLevels = (bound : ℕ) (c : Netlist) (held s : List ℕ) → IsGraph c.aig → IsNetlist c → IsClosedWithin bound c.aig held s
    → levels (moved_of (move_of c held s)) ≤ max bound (levels c)
