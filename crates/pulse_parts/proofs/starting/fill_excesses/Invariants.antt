use Rattle.std.proofs.Common.{◌≡◌, ℕ, ◌+◌, ◌<◌, length, slice_index}
use Rattle.pulse_parts.proofs.SourceArcLaws.{Filled}
use Rattle.pulse_parts.proofs.starting.fill_excesses.Given as goal

abbrev pub invariant-loop-arc : goal.invariant-loop-arc
invariant-loop-arc l = record {
  long : length l.excess ≡ length l.fn.excess;
  each : (i : ℕ) → i < length l.excess → Filled l.net (slice_index l.excess i) (l.first + i) l.arc;
}
