use Rattle.std.proofs.Common.{ℕ, ◌≡◌, ◌<◌, length, Some, slice_get, slice_index}
use Rattle.aag_text.proofs.circuit.order.ranks.Given as goal

abbrev pub invariant-loop-rank : goal.invariant-loop-rank
invariant-loop-rank l =
    (length l.ranks.items ≡ length l.order)
    × ((k g : ℕ) → k < l.rank → slice_get l.order k ≡ Some g → slice_index l.ranks.items g ≡ k)
