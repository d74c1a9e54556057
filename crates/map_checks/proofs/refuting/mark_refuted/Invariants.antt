use Rattle.std.proofs.Common.{◌≡◌, length}
use Rattle.aig_graph.specs.Gates.{gates_of}
use Rattle.gate_sharing.specs.Equal.{StaysRight}
use Rattle.map_checks.specs.Parts.{AreMarkedEqual}
use Rattle.map_checks.proofs.refuting.mark_refuted.Given as goal

abbrev pub invariant-loop-place : goal.invariant-loop-place
invariant-loop-place l = record {
  right : StaysRight l.fn.equal l.equal;
  long : length l.marks.items ≡ l.place;
  equal : AreMarkedEqual (gates_of l.aig) l.fn.equal l.lits l.others l.marks.items;
}
