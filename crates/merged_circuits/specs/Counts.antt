-- How many latches read as another.
use Rattle.std.specs.Prelude.{◌==◌, Bool, List, length}
use Rattle.std.specs.List.{count_by}
use Rattle.aig_graph.specs.Graph.{variable}
use Rattle.certificates.specs.declared.merged.MergedLatch.{MergedLatch}
use Rattle.merged_circuits.specs.declared.counts.MergeCounts.{MergeCounts}

-- whether the latch reads as a constant
abbrev pub is_constant : MergedLatch → Bool
is_constant line = variable line.reads == 0

-- the number of lines, and of those that read a latch as a constant
abbrev pub counts_of : List MergedLatch → MergeCounts
counts_of lines = record { merged = length lines; constant = count_by is_constant lines }
