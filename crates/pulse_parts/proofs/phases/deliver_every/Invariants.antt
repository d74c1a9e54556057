use Rattle.std.proofs.Common.{◌≡◌, ℕ, ◌<◌, ◌≤◌, slice_index_or}
use Rattle.pulse_parts.specs.declared.parts.FlowPart.{FlowPart}
use Rattle.pulse_parts.specs.Parts.{values_of}
use Rattle.pulse_parts.specs.Visiting.{WholeDelivered}
use Rattle.pulse_parts.proofs.phases.deliver_every.Given as goal

abbrev pub invariant-loop-i : goal.invariant-loop-i
invariant-loop-i l = record {
  below : (j : ℕ) (d : FlowPart) → j < l.i → WholeDelivered l.net l.labels (values_of l.pushes) (slice_index_or l.fn.parts j d) (slice_index_or l.parts j d);
  above : (j : ℕ) (d : FlowPart) → l.i ≤ j → slice_index_or l.parts j d ≡ slice_index_or l.fn.parts j d;
}
