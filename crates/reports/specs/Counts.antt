-- The text of what a circuit has.
use Rattle.std.specs.Prelude.{ℕ, List, [], ◌∷◌, ◌++◌, decimal, codes, Option, Some, None}
use Rattle.reports.specs.declared.statistics.Counts.{Counts}
use Rattle.reports.specs.declared.statistics.Statistics.{Statistics}
use Rattle.merged_circuits.specs.declared.counts.MergeCounts.{MergeCounts}

-- a word, a space, a number
unfoldable pub count_line : List ℕ → ℕ → List ℕ
count_line word count = word ++ (32 ∷ (decimal count ++ 10 ∷ []))

-- the lines of inputs, latches, free latches and gates
unfoldable pub graph_counts : Counts → List ℕ
graph_counts c =
    count_line (codes "inputs") c.inputs ++ (count_line (codes "latches") c.latches
    ++ (count_line (codes "free") c.free ++ count_line (codes "gates") c.gates))

-- the lines of the properties, kind after kind
unfoldable pub property_counts : Counts → List ℕ
property_counts c =
    count_line (codes "outputs") c.outputs ++ (count_line (codes "bad") c.bad ++ (count_line (codes "constraints") c.constraints
    ++ (count_line (codes "justice") c.justice ++ count_line (codes "fairness") c.fairness)))

-- the number of latches that are merged, and of these with a constant, if that was asked for
unfoldable pub merge_counts : Option MergeCounts → List ℕ
merge_counts None = []
merge_counts (Some counts) = count_line (codes "merged") counts.merged ++ count_line (codes "constant") counts.constant

-- the lines of `stat`
unfoldable pub counts_text : Statistics → Option MergeCounts → List ℕ
counts_text s merged = graph_counts s.counts ++ (property_counts s.counts ++ (count_line (codes "passable") s.passable ++ merge_counts merged))
