use Rattle.std.proofs.Common.{take}
use Rattle.aig_graph.specs.Keep.{AreLatches}
use Rattle.aig_graph.proofs.holding.first_no_latch.Given as goal

abbrev pub invariant-loop-k : goal.invariant-loop-k
invariant-loop-k l = AreLatches l.latches (take l.k l.positions)
