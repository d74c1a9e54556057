use Rattle.std.proofs.Common.{◌≡◌, take}
use Rattle.aig_graph.specs.Graph.{IsGraph}
use Rattle.witness_circuits.specs.Latches.{with_nexts}
use Rattle.witness_circuits.proofs.latches.set_nexts.Given as goal

abbrev pub invariant-loop-place : goal.invariant-loop-place
invariant-loop-place l = record {
  is : l.gates ≡ record l.fn.gates { latches = with_nexts (take l.place l.nexts) l.fn.gates.latches };
  graph : IsGraph l.gates;
}
