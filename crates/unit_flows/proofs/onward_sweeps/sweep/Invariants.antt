use Rattle.std.proofs.Common.{ℕ, ◌≡◌, ◌≤◌, List, length}
use Rattle.unit_flows.specs.Onward.{AreReachedFromLeft}
use Rattle.unit_flows.proofs.onward_sweeps.sweep.Given as goal

abbrev pub invariant-loop-i : goal.invariant-loop-i
invariant-loop-i l = record {
  reach : (held went came : List ℕ) → AreReachedFromLeft l.frame.circuit.now held l.flows went came l.fn.before l.fn.after → AreReachedFromLeft l.frame.circuit.now held l.flows went came l.before l.after;
  long_before : length l.before ≡ length l.fn.before;
  long_after : length l.after ≡ length l.fn.after;
  few_kept : l.kept ≤ l.i;
}
