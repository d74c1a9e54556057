-- What `stat` prints.
use Rattle.std.specs.Prelude.{ℕ, ◌≡◌, Bool, true, false, List, [], Option, Some, None}
use Rattle.aig_graph.specs.Circuits.{Netlist}
use Rattle.aig_binary.specs.declared.reading.SpeltCircuit.{SpeltCircuit}
use Rattle.reports.specs.CircuitCounts.{statistics}
use Rattle.certificates.specs.declared.merged.MergedLatch.{MergedLatch}
use Rattle.merged_circuits.specs.Counts.{counts_of}
use Rattle.merged_circuits.specs.declared.counts.MergeCounts.{MergeCounts}
use Rattle.retimed_circuits.specs.Merging.{MergesIn}
use Rattle.reports.specs.Counts.{counts_text}
use Rattle.json_reports.specs.Counts.{statistics_data}
use Rattle.json_reports.specs.Lines.{json_line}
use Rattle.counted_io.specs.Input.{Input}
use Rattle.counted_io.specs.Output.{Output}
use Rattle.command_line.specs.declared.task.Counting.{Counting}
use Rattle.circuit_files.specs.declared.outcome.Outcome.{Outcome}
use Rattle.circuit_files.specs.declared.outcome.Outcome.TheVariants.{Done}
use Rattle.command_endings.specs.Printing.{EndsWith}
use Rattle.command_endings.specs.Sources.{IsCircuitAt}

-- the number of latches of c cleaned that are merged, if none is held
pub record AreMergeCounts (c : Netlist) (counts : MergeCounts) : Type 0 where
  pub start : Netlist
  pub kept : List ℕ
  pub now : List ℕ
  pub lines : List MergedLatch
  pub merges : MergesIn [] c start kept now lines
  pub counted : counts ≡ counts_of lines

-- if they are asked for
abbrev pub AreMergeCountsFor : Bool → Netlist → Option MergeCounts → Type 0
AreMergeCountsFor merge c None = merge ≡ false
AreMergeCountsFor merge c (Some counts) = (merge ≡ true) × AreMergeCounts c counts

-- what a circuit has: an object on a line if that is asked for, else lines
abbrev pub statistics_text : Bool → Netlist → Option MergeCounts → List ℕ
statistics_text true c merged = json_line (statistics_data (statistics c) merged)
statistics_text false c merged = counts_text (statistics c) merged

-- that was printed, as is asked for
pub record PrintsCounts (task : Counting) (c : Netlist) (old new : Output) (ended : Outcome) : Type 0 where
  pub merged : Option MergeCounts
  pub are : AreMergeCountsFor task.merge c merged
  pub printed : EndsWith Done (statistics_text task.json c merged) old new ended

-- what the circuit has that is read was printed
pub record PrintsStatistics (task : Counting) (before after : Input) (old new : Output) (ended : Outcome) : Type 0 where
  pub spelt : SpeltCircuit
  pub read : IsCircuitAt task.input before after spelt
  pub printed : PrintsCounts task spelt.circuit old new ended
