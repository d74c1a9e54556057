use Rattle.std.proofs.Common.{arith}
use Rattle.batch_pool.proofs.SharingLaws.{still_empty}
use Rattle.batch_pool.proofs.slots.empty_slots.Goals as goal

pub loop-preserved : goal.loop-preserved
loop-preserved g c =
    let inv = c.loop.invariant in (
      omega (arith, inv.0, c.push_reserved.ensures.len),
      omega (arith, inv.1, c.push_reserved.ensures.capacity),
      still_empty c.loop.slots.items c.push_reserved.new.self.items c.push_reserved.ensures.items inv.2,
    )
