use Rattle.std.proofs.Common.{ℕ, ◌≡◌, ◌+◌, Bool}
use Rattle.aig_graph.specs.Graph.{first_gate}
use Rattle.aig_graph.specs.Gates.{Grows, Respects, gates_of}
use Rattle.gate_sharing.specs.Equal.{IsRight, StaysRight}
use Rattle.gate_sharing.specs.Copies.{AreShared, CopiesValues, copied_end}
use Rattle.gate_sharing.proofs.copied.copy.Given as goal

abbrev pub invariant-loop-gate : goal.invariant-loop-gate
invariant-loop-gate l = record {
  grows : Grows l.fn.shared l.shared;
  right : StaysRight l.fn.equal l.equal;
  first : l.copied.first ≡ l.fn.leaves.first;
  long : copied_end l.copied ≡ first_gate l.aig + l.gate-index;
  within : AreShared l.shared l.copied;
  follows : (values own : ℕ → Bool) → Respects l.shared values → Respects (gates_of l.aig) own → IsRight l.fn.equal values → CopiesValues l.fn.leaves (first_gate l.aig) values own
      → CopiesValues l.copied (copied_end l.copied) values own;
}
