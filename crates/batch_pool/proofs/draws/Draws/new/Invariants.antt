use Rattle.std.proofs.Common.{◌≡◌, ◌+◌, [], All, length}
use Rattle.batch_pool.specs.Drawing.{AreInPlace, drawn}
use Rattle.batch_pool.proofs.draws.Draws.new.Given as goal

abbrev pub invariant-loop-worker : goal.invariant-loop-worker
invariant-loop-worker l =
    (l.seat.table_id ≡ l.table.shared.table_id) × (l.seat.me.1 ≡ []) × (l.seat.me.0.drawn ≡ []) × (l.seat.me.0.parts + l.worker ≡ l.drawers)
    × (length l.list.items ≡ l.worker) × All (λ d. d.seat.table_id ≡ l.table.shared.table_id) l.list.items × All (λ d. drawn d ≡ []) l.list.items × AreInPlace l.list.items
