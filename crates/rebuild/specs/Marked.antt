-- The marks that a move rests on.
use Rattle.std.specs.Prelude.{◌≡◌}
use Rattle.aig_graph.specs.Border.{border_size}
use Rattle.aig_graph.specs.Move.{Move}
use Rattle.aig_graph.specs.Marking.{has}
use Rattle.rebuild.specs.Entries.{by_variable}
use Rattle.rebuild.specs.Moved.{is_latched}
use Rattle.rebuild.specs.declared.marking.MoveMarks.{MoveMarks}

-- marks of the set's members and of what has a latch after the move, and the size of the border
pub record AreMarksOf (m : Move) (k : MoveMarks) : Type 0 where
  pub members : k.members.items ≡ by_variable m.circuit.aig (has m.set)
  pub latched : k.latched.items ≡ by_variable m.circuit.aig (is_latched m)
  pub border : k.border ≡ border_size m
