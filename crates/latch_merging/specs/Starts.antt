-- What frames start from: a circuit that was cleaned and merged.
use Rattle.std.specs.Prelude.{ℕ, ◌≡◌, ◌<◌, All, List, length}
use Rattle.aig_graph.specs.Circuits.{Netlist}
use Rattle.aig_graph.specs.Streams.{SameStreams}
use Rattle.certificates.specs.declared.merged.MergedLatch.{MergedLatch}
use Rattle.clean.specs.declared.cleaning.Cleaned.{Cleaned}
use Rattle.merged_circuits.specs.Inductive.{IsMergedBy}
use Rattle.merged_circuits.specs.Lines.{IsSaidBy}
use Rattle.retimed_circuits.specs.Frames.{CleansTo}
use Rattle.retimed_circuits.specs.Merging.{MergesIn}
use Rattle.retimed_circuits.specs.Names.{StayHeld}
use Rattle.latch_merging.specs.declared.given.GivenStart.{GivenStart}
use Rattle.latch_merging.specs.declared.given.GivenStart.TheVariants.{Merged, Misread, NotShown}
use Rattle.latch_merging.specs.declared.start.MergedStart.{MergedStart}
use Rattle.latch_merging.specs.Merging.{AreMisread}

-- what a cleaned circuit is merged to; all its free latches stay, and the held ones at their
-- positions
pub record IsStartOf (d : Cleaned) (m : MergedStart) : Type 0 where
  pub reads : List ℕ
  pub said : IsSaidBy d.circuit.aig m.merged reads
  pub merged : IsMergedBy d.keep reads d.circuit m.circuit
  pub keep : m.keep ≡ d.keep
  pub kept_free : m.kept_free ≡ d.kept_free

-- what a circuit is cleaned and merged to has its streams; the held latches stay
pub record IsStart (held : List ℕ) (c : Netlist) (m : MergedStart) : Type 0 where
  pub merges : MergesIn held c m.circuit m.kept_free m.keep m.merged
  pub streams : SameStreams c m.circuit m.kept_free
  pub stay : StayHeld held c m.keep m.circuit
  pub in_range : All (λ j. j < length m.circuit.aig.latches) m.keep

-- a cleaned circuit, no reading of which has these lines; one of them names the latch
pub record AreMisreadIn (held : List ℕ) (c : Netlist) (lines : List MergedLatch) (latch : ℕ) : Type 0 where
  pub clean : Netlist
  pub kept : List ℕ
  pub now : List ℕ
  pub cleaned : CleansTo held c clean kept now
  pub misread : AreMisread clean.aig now lines latch

-- Merged by these lines. Lines that are misread are those of no reading. Steps may preserve one
-- that isn't shown or not.
abbrev pub IsGivenStartOf : Cleaned → List MergedLatch → GivenStart → Type 0
IsGivenStartOf d lines (Merged m) = IsStartOf d m × (m.merged ≡ lines)
IsGivenStartOf d lines (Misread latch) = AreMisread d.circuit.aig d.keep lines latch
IsGivenStartOf d lines (NotShown latch) = Unit {0}

-- the circuit cleaned, and merged by these lines; misread ones say no reading of the cleaned
-- circuit
abbrev pub IsGivenStart : List ℕ → Netlist → List MergedLatch → GivenStart → Type 0
IsGivenStart held c lines (Merged m) = IsStart held c m × (m.merged ≡ lines)
IsGivenStart held c lines (Misread latch) = AreMisreadIn held c lines latch
IsGivenStart held c lines (NotShown latch) = Unit {0}
