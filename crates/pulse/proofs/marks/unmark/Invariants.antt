use Rattle.std.proofs.Common.{◌≡◌, ℕ, ◌<◌, false, length, slice_index_or}
use Rattle.pulse.proofs.marks.unmark.Given as goal

abbrev pub invariant-loop-v : goal.invariant-loop-v
invariant-loop-v l = record {
  len : length l.delivered ≡ length l.fn.delivered;
  marks : (u : ℕ) → u < l.v → slice_index_or l.delivered u false ≡ false;
}
