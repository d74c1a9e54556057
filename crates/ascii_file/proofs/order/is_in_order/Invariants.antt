use Rattle.std.proofs.Common.{ℕ, ◌<◌, ◌≡◌, Some, slice_get}
use Rattle.ascii_file.specs.declared.order.reads.Reads.{Reads}
use Rattle.ascii_file.specs.order.Order.{ReadsBelow}
use Rattle.ascii_file.proofs.order.is_in_order.Given as goal

abbrev pub invariant-loop-place : goal.invariant-loop-place
invariant-loop-place l = (g : ℕ) (reads : Reads) → g < l.place → slice_get l.gates g ≡ Some reads → ReadsBelow g reads
