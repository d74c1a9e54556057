use Rattle.std.proofs.Common.{◌≡◌, length}
use Rattle.aig_graph.specs.Circuits.{Netlist}
use Rattle.lane_sim.specs.declared.stimulus.InputSequence.{InputSequence}
use Rattle.witnesses.specs.Confirming.{AgreeEach}
use Rattle.witnesses.specs.Found.{AreFound}
use Rattle.witnesses.proofs.confirming.all_agreed.Given as goal

abbrev pub invariant-loop-k : goal.invariant-loop-k
invariant-loop-k l = record {
  many : length l.reached.items ≡ l.k;
  each : (c d : Netlist) (run other : InputSequence) → AreFound c run l.properties l.found → AreFound d other l.properties l.retimed_found
      → AgreeEach c d run other l.properties l.reached.items;
}
