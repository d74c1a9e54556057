use Rattle.std.proofs.Common.{◌+◌, ◌*◌}
use Rattle.hold_drafts.proofs.walks.Walk.+walking.Given as goal

abbrev pub decreases-split : goal.decreases-split
decreases-split l = 3 * l.depth

abbrev pub decreases-split_beside : goal.decreases-split_beside
decreases-split_beside l = 3 * l.depth + 1

abbrev pub decreases-split_choice : goal.decreases-split_choice
decreases-split_choice l = 3 * l.depth + 2

abbrev pub decreases-split_gate : goal.decreases-split_gate
decreases-split_gate l = 3 * l.depth + 2

abbrev pub decreases-split_side : goal.decreases-split_side
decreases-split_side l = 3 * l.depth + 1
