use Rattle.std.proofs.Common.{◌<◌, List, All, Option, arith, subst}
use Rattle.batch_pool.proofs.GatheringLaws.{last_of_all, front_of_all}
use Rattle.batch_pool.specs.Sharing.{IsFilled}
use Rattle.batch_pool.proofs.SharingLaws.{unwrapped_one}
use Rattle.batch_pool.proofs.slots.unwrapped.Goals as goal

pub unreachable-requires : goal.unreachable-requires
unreachable-requires g c =
    let all = subst (λ (l : List (Option g.row.X.Denot)). All IsFilled l) c.in-Some.ensures.items c.loop-slot.invariant.0 in
    let none : 0 < 0 = subst IsFilled c.in_default-slot.is (last_of_all IsFilled c.pop.new.self.items c.in-Some.slot all) in
    omega (arith, none)

pub loop-slot-smaller : goal.loop-slot-smaller
loop-slot-smaller g c = omega (arith, c.in-Some.ensures.len)

pub loop-slot-preserved : goal.loop-slot-preserved
loop-slot-preserved g c =
    let inv = c.loop-slot.invariant in
    let rest = c.pop.new.self.items in
    let slot = c.in-Some.slot in
    let all = subst (λ (l : List (Option g.row.X.Denot)). All IsFilled l) c.in-Some.ensures.items inv.0 in (
      front_of_all IsFilled rest slot all,
      unwrapped_one c.args.slots.items c.loop-slot.left.items rest slot c.loop-slot.values.items c.push_reserved.new.self.items c.in-Some-slot.value
          c.in-Some.ensures.items c.in-Some-slot.is c.push_reserved.ensures.items inv.1,
      omega (arith, inv.2, c.in-Some.ensures.len, c.push_reserved.ensures.len),
      omega (arith, inv.3, c.push_reserved.ensures.capacity),
    )
