use Rattle.std.proofs.Common.{◌≡◌, ℕ, ◌<◌, false, length, slice_index_or}
use Rattle.pulse_parts.specs.Marks.{and_range}
use Rattle.pulse.proofs.marks.mark.Given as goal

abbrev pub invariant-loop-v : goal.invariant-loop-v
invariant-loop-v l = record {
  len : length l.delivered ≡ length l.fn.delivered;
  marks : (v : ℕ) → v < length l.fn.delivered → slice_index_or l.delivered v false ≡ and_range (λ u. slice_index_or l.fn.delivered u false) l.first l.v v;
}
