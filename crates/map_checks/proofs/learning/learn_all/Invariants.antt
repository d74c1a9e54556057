use Rattle.aig_graph.specs.Gates.{Grows}
use Rattle.map_checks.specs.Images.{Learns}
use Rattle.map_checks.proofs.learning.learn_all.Given as goal

abbrev pub invariant-loop : goal.invariant-loop
invariant-loop l = record {
  grows : Grows l.fn.shared l.shared;
  learns : Learns l.shared l.first l.map l.fn.equal l.equal;
}
