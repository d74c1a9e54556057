use Rattle.frame_net.proofs.PassableLaws.{entry-sum}
use Rattle.frame_net.proofs.pass_set.push_gates.Goals as goal

pub loop-gate-preserved : goal.loop-gate-preserved
loop-gate-preserved c = record {
  filled = entry-sum c.args.aig.now c.args.keep.now c.loop-gate.gate-index c.gate-item.result c.gates-gate-items.result.now c.loop-gate.marks.items c.push.new.self.items c.as_slice.result.now c.rests_on_settled-passes.result
      c.gates-gate-items.ensures.graph c.gates-gate-items.ensures.value c.loop-gate-test.true c.gate-item.is c.loop-gate.invariant.filled c.as_slice.ensures.value c.in_ok-push.ensures.items c.rests_on_settled-passes.ensures;
}
