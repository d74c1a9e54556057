use Rattle.std.proofs.Common.{◌≡◌, ◌++◌, length, reverse}
use Rattle.cut_cert.specs.Walks.{AreOn, points_of}
use Rattle.cut_cert.proofs.trail.take_points.Given as goal

abbrev pub invariant-loop-node : goal.invariant-loop-node
invariant-loop-node l = record {
  on : AreOn (length l.fn.marks) l.marks (reverse l.nodes.items);
  points : l.points.items ++ points_of l.fn.net (reverse l.nodes.items) ≡ points_of l.fn.net (reverse l.fn.nodes.items);
}

abbrev pub decreases-loop-node : goal.decreases-loop-node
decreases-loop-node l = length (reverse l.nodes.items)
