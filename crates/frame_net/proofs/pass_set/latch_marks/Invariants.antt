use Rattle.std.proofs.Common.{◌≡◌, ℕ, List}
use Rattle.aig_graph.specs.Tables.{table}
use Rattle.aig_graph.specs.Graph.{first_latch}
use Rattle.frame_net.specs.Passable.{is_passable}
use Rattle.frame_net.proofs.pass_set.latch_marks.Given as goal

abbrev pub invariant-loop-latch : goal.invariant-loop-latch
invariant-loop-latch l = record { filled : (held : List ℕ) → l.marks.items ≡ table (first_latch l.aig) l._latch-index (is_passable l.aig held) }
