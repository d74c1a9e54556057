-- What a reading says in lines: one for each latch that reads as another literal.
use Rattle.std.specs.Prelude.{ℕ, ◌+◌, ◌*◌, ◌≡◌, ◌==◌, not, Bool, List, filter, length}
use Rattle.aig_graph.specs.Graph.{Graph, first_latch}
use Rattle.aig_graph.specs.Tables.{table}
use Rattle.certificates.specs.declared.merged.MergedLatch.{MergedLatch}
use Rattle.merged_circuits.specs.Readings.{read}

-- the variable of latch j, and what it reads as
abbrev pub latch_line : Graph → List ℕ → ℕ → MergedLatch
latch_line g reads j = record { latch = first_latch g + j; reads = read reads j }

-- whether the latch reads as another literal than its own
abbrev pub is_merged : MergedLatch → Bool
is_merged line = not (line.reads == 2 * line.latch)

-- for each latch in order that doesn't read as itself, its variable and what it reads as
unfoldable pub merged_lines : Graph → List ℕ → List MergedLatch
merged_lines g reads = filter is_merged (table 0 (length g.latches) (latch_line g reads))

-- the reading has a literal for each latch, and these are its lines
pub record IsSaidBy (g : Graph) (lines : List MergedLatch) (reads : List ℕ) : Type 0 where
  pub long : length reads ≡ length g.latches
  pub said : merged_lines g reads ≡ lines
