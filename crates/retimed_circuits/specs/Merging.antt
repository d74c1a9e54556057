-- What frames start from if latches that always agree are merged before the first one.
use Rattle.std.specs.Prelude.{ℕ, List}
use Rattle.aig_graph.specs.Circuits.{Netlist}
use Rattle.certificates.specs.declared.merged.MergedLatch.{MergedLatch}
use Rattle.merged_circuits.specs.Inductive.{IsMergedBy}
use Rattle.merged_circuits.specs.Lines.{IsSaidBy}
use Rattle.retimed_circuits.specs.Frames.{CleansTo}

-- d is c cleaned, then merged by the reading that the lines say. Held latches, then at `now`, take
-- no part. kept has the places of the free latches that stay.
pub record MergesIn (held : List ℕ) (c d : Netlist) (kept now : List ℕ) (lines : List MergedLatch) : Type 0 where
  pub clean : Netlist
  pub cleaned : CleansTo held c clean kept now
  pub reads : List ℕ
  pub said : IsSaidBy clean.aig lines reads
  pub merged : IsMergedBy now reads clean d
