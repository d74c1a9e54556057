use Rattle.std.proofs.Common.{◌≡◌, ◌+◌, [], All, length}
use Rattle.batch_pool.proofs.GatheringLaws.{Has}
use Rattle.batch_pool.proofs.draws.Draws.gather.Given as goal

abbrev pub invariant-loop-next : goal.invariant-loop-next
invariant-loop-next l =
    (l.seat.table_id ≡ l.self.table.shared.table_id) × (l.seat.me.1 ≡ []) × (l.seat.me.0.parts + length l.left.items ≡ l.self.drawers)
    × Has l.seat.me.0.drawn l.left.items l.fn.drawers.items
    × All (λ d. d.seat.table_id ≡ l.self.table.shared.table_id) l.left.items

abbrev pub decreases-loop-next : goal.decreases-loop-next
decreases-loop-next l = goal.left-loop-next l
