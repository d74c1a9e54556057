use Rattle.std.proofs.Common.{◌≡◌, ◌++◌, true, List, ℕ, length, reverse}
use Rattle.aig_graph.specs.Marking.{has}
use Rattle.cut_cert.specs.Walks.{AreOn}
use Rattle.cut_cert.proofs.trail.forget_loop.Given as goal

abbrev pub invariant-loop-last : goal.invariant-loop-last
invariant-loop-last l = record {
  there : has (reverse l.nodes.items) l.fn.node ≡ true;
  on : AreOn (length l.fn.marks) l.marks (reverse l.nodes.items);
  parts : (front : List ℕ) × (reverse l.fn.nodes.items ≡ front ++ reverse l.nodes.items);
}

abbrev pub decreases-loop-last : goal.decreases-loop-last
decreases-loop-last l = length (reverse l.nodes.items)
