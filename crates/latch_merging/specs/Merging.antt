-- What a circuit is merged to.
use Rattle.std.specs.Prelude.{ℕ, ◌≡◌, List}
use Rattle.aig_graph.specs.Circuits.{Netlist}
use Rattle.aig_graph.specs.Graph.{Graph}
use Rattle.certificates.specs.declared.merged.MergedLatch.{MergedLatch}
use Rattle.merged_circuits.specs.Inductive.{IsMergedBy}
use Rattle.latch_readings.specs.Judgements.{NameLatch}
use Rattle.merged_circuits.specs.Lines.{IsSaidBy}
use Rattle.merged_circuits.specs.Readings.{IsReading}
use Rattle.latch_merging.specs.declared.given.GivenMerging.{GivenMerging}
use Rattle.latch_merging.specs.declared.given.GivenMerging.TheVariants.{Merged as MergedSo, Misread, NotShown}
use Rattle.latch_merging.specs.declared.merging.MergedCircuit.{MergedCircuit}
use Rattle.latch_merging.specs.declared.merging.Round.{Round}
use Rattle.latch_merging.specs.declared.merging.Round.TheVariants.{Merged, Parted}

-- the circuit is merged by the reading beside it, and the lines say that reading
pub record IsMergedCircuit (held : List ℕ) (c : Netlist) (m : MergedCircuit) : Type 0 where
  pub said : IsSaidBy c.aig m.merged m.reads.items
  pub merged : IsMergedBy held m.reads.items c m.circuit

-- what a round leaves to be judged claims nothing
abbrev pub IsRound : List ℕ → Netlist → Round → Type 0
IsRound held c (Merged m) = IsMergedCircuit held c m
IsRound held c (Parted reads) = Unit {0}

-- no reading has these lines, one of which names the latch
pub record AreMisread (g : Graph) (held : List ℕ) (lines : List MergedLatch) (latch : ℕ) : Type 0 where
  pub named : NameLatch lines latch
  pub none : (reads : List ℕ) → IsReading g held reads → IsSaidBy g lines reads → ⊥

-- merged by these lines; misread ones say no reading; steps may preserve one that isn't shown or
-- not
abbrev pub IsGivenMerging : List ℕ → Netlist → List MergedLatch → GivenMerging → Type 0
IsGivenMerging held c lines (MergedSo m) = IsMergedCircuit held c m × (m.merged ≡ lines)
IsGivenMerging held c lines (Misread latch) = AreMisread c.aig held lines latch
IsGivenMerging held c lines (NotShown latch) = Unit {0}
