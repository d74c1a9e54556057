-- What the judge of a reading answers, and what lines say.
use Rattle.std.specs.Prelude.{ℕ, ◌+◌, ◌<◌, ◌≡◌, true, Contains, List, Option, Some, None, length, slice_get}
use Rattle.aig_graph.specs.declared.graph.Latch.{Latch}
use Rattle.aig_graph.specs.Circuits.{Netlist}
use Rattle.aig_graph.specs.Graph.{Graph, first_latch}
use Rattle.certificates.specs.declared.merged.MergedLatch.{MergedLatch}
use Rattle.merged_circuits.specs.Inductive.{IsMergedBy}
use Rattle.merged_circuits.specs.Lines.{IsSaidBy, is_merged}
use Rattle.merged_circuits.specs.Readings.{IsReading, ReadsAs, from_reset, may_merge, own_literal, read}
use Rattle.latch_readings.specs.declared.judging.Judgement.{Judgement}
use Rattle.latch_readings.specs.declared.judging.Judgement.TheVariants.{Merged, Misread, Open}
use Rattle.latch_readings.specs.declared.lines.LineReading.{LineReading}
use Rattle.latch_readings.specs.declared.lines.LineReading.TheVariants.{Reads, Misread as Misplaced}

-- Why a literal is that of an earlier latch as latch j may read it. That one may be merged and is
-- its own reading. The literal is negated if their resets differ.
pub record IsOfFirst (g : Graph) (held reads : List ℕ) (j : ℕ) (latch : Latch) (lit : ℕ) : Type 0 where
  pub i : ℕ
  pub first : Latch
  pub less : i < j
  pub there : slice_get g.latches i ≡ Some first
  pub may : may_merge held i first ≡ true
  pub own : read reads i ≡ own_literal g i
  pub is : lit ≡ from_reset latch.reset (from_reset first.reset (own_literal g i))

-- The place is that of the first latch that may not read as its literal. If there isn't a literal
-- for each latch, it is the number of literals.
pub data IsMisread (g : Graph) (held reads : List ℕ) (place : ℕ) : Type 0 where
  other_length : (length reads ≡ length g.latches → ⊥) → place ≡ length reads → IsMisread g held reads place
  other_literal : (latch : Latch) → length reads ≡ length g.latches → ((j : ℕ) → j < place → (before : Latch) → slice_get g.latches j ≡ Some before → ReadsAs g held reads j before (read reads j))
      → slice_get g.latches place ≡ Some latch → (ReadsAs g held reads place latch (read reads place) → ⊥) → IsMisread g held reads place

-- the circuit is merged by the reading; a misread one is none; steps may preserve an open one or
-- not
abbrev pub IsJudgement : Netlist → List ℕ → List ℕ → Judgement → Type 0
IsJudgement c held reads (Merged d) = IsMergedBy held reads c d
IsJudgement c held reads (Misread place) = IsMisread c.aig held reads place
IsJudgement c held reads (Open place) = IsReading c.aig held reads

-- no list with a literal for each latch has these lines
abbrev pub SayNoReading : Graph → List MergedLatch → Type 0
SayNoReading g lines = (reads : List ℕ) → IsSaidBy g lines reads → ⊥

-- one of the lines names the latch of this variable
abbrev pub NameLatch : List MergedLatch → ℕ → Type 0
NameLatch lines latch = (line : MergedLatch) × Contains lines line × (line.latch ≡ latch)

-- the lines say the reading; refused lines say none, and one of them names the latch
abbrev pub IsReadingOf : Graph → List MergedLatch → LineReading → Type 0
IsReadingOf g lines (Reads reads) = IsSaidBy g lines reads.items
IsReadingOf g lines (Misplaced latch) = NameLatch lines latch × SayNoReading g lines

-- The line at a place is that of latch j, which reads as another literal by it. If there is no
-- literal, no line there is so.
abbrev pub IsLineFor : Graph → List MergedLatch → ℕ → ℕ → Option ℕ → Type 0
IsLineFor g lines at j (Some lit) = (slice_get lines at ≡ Some (record { latch = first_latch g + j; reads = lit })) × (is_merged (record { latch = first_latch g + j; reads = lit }) ≡ true)
IsLineFor g lines at j None =
    (lit : ℕ) → slice_get lines at ≡ Some (record { latch = first_latch g + j; reads = lit }) → is_merged (record { latch = first_latch g + j; reads = lit }) ≡ true → ⊥
