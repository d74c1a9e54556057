use Rattle.std.proofs.Common.{ℕ, ◌<◌, slice_index}
use Rattle.pulse_parts.proofs.inflow.is_rising.Given as goal

abbrev pub invariant-loop-i : goal.invariant-loop-i
invariant-loop-i l = (a b : ℕ) → a < b → b < l.i → slice_index l.list a < slice_index l.list b
