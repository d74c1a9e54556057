use Rattle.std.proofs.Common.{◌≡◌, length}
use Rattle.unit_flows.specs.Onward.{AreReachedFromLeft}
use Rattle.unit_flows.proofs.onward_sweeps.mark_left.Given as goal

abbrev pub invariant-loop-place : goal.invariant-loop-place
invariant-loop-place l = record {
  reach : AreReachedFromLeft l.frame.circuit.now l.frame.keep.now l.flows l.went l.came l.fn.before l.fn.after → AreReachedFromLeft l.frame.circuit.now l.frame.keep.now l.flows l.went l.came l.fn.before l.after;
  long_after : length l.after ≡ length l.fn.after;
}

abbrev pub invariant-loop-k : goal.invariant-loop-k
invariant-loop-k l = record {
  reach : AreReachedFromLeft l.frame.circuit.now l.frame.keep.now l.flows l.went l.came l.fn.before l.fn.after → AreReachedFromLeft l.frame.circuit.now l.frame.keep.now l.flows l.went l.came l.before l.after;
  long_before : length l.before ≡ length l.fn.before;
  long_after : length l.after ≡ length l.fn.after;
}
