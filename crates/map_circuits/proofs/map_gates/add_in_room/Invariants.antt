use Rattle.std.proofs.Common.{ℕ, ◌+◌, ◌-◌, ◌*◌, ◌≡◌, ◌≤◌, List, ◌++◌, length, get_or, take, vec_capacity}
use Rattle.aig_graph.specs.Graph.{first_gate, first_latch, variables_end}
use Rattle.map_circuits.specs.Growing.{Extends}
use Rattle.map_circuits.specs.Following.{AreWithin, Follows}
use Rattle.map_circuits.specs.Packing.{ArePacked, packed}
use Rattle.map_circuits.proofs.map_gates.add_in_room.Given as goal

-- The bytes, with those that wait, are those of the gates so far. The entries follow below the next
-- member, and there is room for the gates that are left.
abbrev pub invariant-loop-var : goal.invariant-loop-var
invariant-loop-var l = record {
  are : ArePacked l.inputs (l.count + l.var-index) (l.deltas.items ++ take l.waiting l.chunk);
  extends : Extends (packed l.inputs l.fn.deltas.items) (packed l.inputs (l.deltas.items ++ take l.waiting l.chunk));
  long : first_latch l.aig + length l.literals ≡ variables_end l.aig;
  within : AreWithin (packed l.inputs (l.deltas.items ++ take l.waiting l.chunk)) l.aig l.set (get_or l.set l.var-index (variables_end l.aig)) l.literals;
  follows : (functions : List ℕ) → Follows (packed l.inputs l.fn.deltas.items) functions l.aig l.set (first_gate l.aig) (packed l.inputs l.fn.deltas.items) l.fn.literals
      → Follows (packed l.inputs l.fn.deltas.items) functions l.aig l.set (get_or l.set l.var-index (variables_end l.aig)) (packed l.inputs (l.deltas.items ++ take l.waiting l.chunk)) l.literals;
  next : l.next ≡ 1 + l.inputs + l.count + l.var-index;
  chunk : length l.chunk ≡ 640;
  waiting : l.waiting ≤ 640;
  room : length l.deltas.items + l.waiting + 10 * (length l.set - l.var-index) ≤ vec_capacity l.deltas;
}
