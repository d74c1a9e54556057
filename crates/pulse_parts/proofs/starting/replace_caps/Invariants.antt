use Rattle.std.proofs.Common.{◌≡◌, ℕ, ◌+◌, ◌<◌, length, slice_index}
use Rattle.pulse_parts.proofs.SourceArcLaws.{Holds}
use Rattle.pulse_parts.proofs.starting.replace_caps.Given as goal

abbrev pub invariant-loop-arc : goal.invariant-loop-arc
invariant-loop-arc l = record {
  long : length l.residuals ≡ length l.fn.residuals;
  each : (i : ℕ) → i < length l.residuals → Holds l.net (slice_index l.residuals i) (l.base + i) l.arc;
}
