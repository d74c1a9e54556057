-- Tables with an entry for each latch and each gate.
use Rattle.std.specs.Prelude.{ℕ, ◌||◌, ◌&&◌, Bool, List}
use Rattle.aig_graph.specs.Graph.{Graph, first_latch, latches_and_gates, latch_at, is_known, is_free_latch}
use Rattle.aig_graph.specs.Marking.{mark_at}
use Rattle.aig_graph.specs.Tables.{table}

-- a table with an entry for each latch and gate, from the first latch on
abbrev pub by_variable : {A : Type 0} → Graph → (ℕ → A) → List A
by_variable g f = table (first_latch g) (latches_and_gates g) f

-- whether the variable has a latch after the move, by the marks of the set's members and of what is
-- held or read from outside
abbrev pub latched_by : Graph → List Bool → List Bool → ℕ → Bool
latched_by g inside marks v = is_free_latch (latch_at g v) || ((is_known (latch_at g v) || mark_at (first_latch g) inside v) && mark_at (first_latch g) marks v)
