use Rattle.std.proofs.Common.{length, reverse}
use Rattle.cut_cert.specs.Walks.{AreSearched, total_outflow}
use Rattle.cut_cert.proofs.RouteLaws.{SoFar}
use Rattle.cut_cert.proofs.walk.walk.Given as goal

abbrev pub invariant-loop-tail : goal.invariant-loop-tail
invariant-loop-tail l = record {
  far : SoFar l.net l.fn.carried l.carried (length l.fn.marks) l.marks l.at (reverse l.nodes.items);
  searched : AreSearched l.net l.carried l.places;
}

abbrev pub decreases-loop-tail : goal.decreases-loop-tail
decreases-loop-tail l = total_outflow l.net l.carried
