use Rattle.std.proofs.Common.{ℕ, ◌≡◌, ◌≤◌, ◌++◌, List, length}
use Rattle.aag_text.specs.Standing.{Hold, HoldBefore}
use Rattle.aag_text.proofs.items.Items.feed.Given as goal

abbrev pub invariant-loop-part : goal.invariant-loop-part
invariant-loop-part l = record {
  short : length l.left ≤ l.end;
  holds : (bytes : List ℕ) → Hold l.fn.self bytes → length (bytes ++ l.piece) ≡ l.end → HoldBefore l.self l.left (bytes ++ l.piece);
}

abbrev pub decreases-loop-part : goal.decreases-loop-part
decreases-loop-part l = length l.left
