-- The levels of a circuit that is cleaned, or whose latches are merged.
use Rattle.std.specs.Prelude.{ℕ, ◌≤◌, List}
use Rattle.aig_graph.specs.Graph.{IsGraph}
use Rattle.aig_graph.specs.Circuits.{Netlist, IsNetlist}
use Rattle.cleaned_circuits.specs.Cleaned.{Cleans}
use Rattle.merged_circuits.specs.Inductive.{IsMergedBy}
use Rattle.path_levels.specs.Levels.{levels}

-- cleaning makes no path longer
abbrev pub CleaningKeepsLevels : Type 0
CleaningKeepsLevels = (held : List ℕ) (c d : Netlist) (kept : List ℕ) → IsGraph c.aig → IsNetlist c → Cleans d held c kept → levels d ≤ levels c

-- nor does merging latches
abbrev pub MergingKeepsLevels : Type 0
MergingKeepsLevels = (held reads : List ℕ) (c d : Netlist) → IsGraph c.aig → IsNetlist c → IsMergedBy held reads c d → levels d ≤ levels c
