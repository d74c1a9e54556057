use Rattle.std.proofs.Common.{suc, length, slice_index, arith}
use Rattle.frame_net.proofs.SumLaws.{sum_below-mono}
use Rattle.frame_net.proofs.rows.subtract_pushes.Goals as goal

pub overflow_add-sum : goal.overflow_add-sum
overflow_add-sum c =
    omega (arith, c.requires.total, sum_below-mono (suc c.loop-k.k) (length c.args.row.now) (slice_index c.args.pushes.now) (omega arith))
