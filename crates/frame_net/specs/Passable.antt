-- The gates over which latches may move.
use Rattle.std.specs.Prelude.{◌≡◌, ℕ, ◌&&◌, Bool, List, is_some, length}
use Rattle.aig_graph.specs.Counting.{places}
use Rattle.aig_graph.specs.Tables.{table}
use Rattle.aig_graph.specs.Graph.{Graph, first_latch, variables_end, latches_and_gates, gate_at}
use Rattle.aig_graph.specs.Closed.{is_settled}
use Rattle.frame_net.specs.declared.pass_set.PassSet.{PassSet}

-- whether the variable is a passable gate
unfoldable pub is_passable : Graph → List ℕ → ℕ → Bool
is_passable g held v = is_some (gate_at g v) && is_settled g held v

-- the passable gates, in increasing order
abbrev pub passable_gates : Graph → List ℕ → List ℕ
passable_gates g held = places (is_passable g held) (variables_end g)

-- the marks are those of the passable gates, from the first latch on
pub record IsPassSet (g : Graph) (held : List ℕ) (pass : PassSet) : Type 0 where
  pub first : pass.first ≡ first_latch g
  pub marks : pass.marks.items ≡ table (first_latch g) (latches_and_gates g) (is_passable g held)
  pub count : pass.count ≡ length (passable_gates g held)
