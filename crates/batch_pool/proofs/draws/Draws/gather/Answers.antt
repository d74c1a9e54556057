use Rattle.std.proofs.Common.{rules, ◌≡◌, ◌+◌, arith, ap, ◌∙◌, subst, List, All}
use Rattle.batch_pool.specs.declared.draws.Drawer.{Drawer}
use Rattle.batch_pool.proofs.StepLaws.{collects, tallies}
use Rattle.batch_pool.proofs.GatheringLaws.{has_first, has_more, last_of_all, front_of_all, each_once}
use Rattle.batch_pool.proofs.draws.Draws.gather.Goals as goal

pub loop-next-init : goal.loop-next-init
loop-next-init c =
    let P : Drawer → Type 0 = λ d. d.seat.table_id ≡ c.args.self.now.table.shared.table_id in
    let left = c.pop.new.self.items in
    let d = c.in-Some.first in
    let mine = subst (λ (l : List Drawer). All P l) c.in-Some.ensures.items c.requires.mine in (
      last_of_all P left d mine,
      d.no_slot,
      omega (arith, d.share, c.requires.all, c.in-Some.ensures.len),
      has_first c.args.drawers.items left d c.in-Some.ensures.items,
      front_of_all P left d mine,
    )

pub join_seat-requires : goal.join_seat-requires
join_seat-requires c =
    let P : Drawer → Type 0 = λ d. d.seat.table_id ≡ c.args.self.now.table.shared.table_id in
    let inv = c.loop-next.invariant in (
      inv.0,
      last_of_all P c.pop-in-loop-next.new.self.items c.in-Some-pop.next (subst (λ (l : List Drawer). All P l) c.in-Some-pop.ensures.items inv.4),
      c.in-Some-pop.next.no_slot,
      search rules,
      collects c.args.self.now.table.shared.key c.loop-next.seat.id c.loop-next.seat.me.0 c.in-Some-pop.next.seat.id c.in-Some-pop.next.seat.me.0,
    )

pub loop-next-preserved : goal.loop-next-preserved
loop-next-preserved c =
    let P : Drawer → Type 0 = λ d. d.seat.table_id ≡ c.args.self.now.table.shared.table_id in
    let inv = c.loop-next.invariant in
    let now = c.join_seat.ensures.2 in
    let d = c.in-Some-pop.next in
    let parts : c.join_seat.new.seat.me.0.parts ≡ c.loop-next.seat.me.0.parts + d.seat.me.0.parts = ap (λ m. m.0.parts) now in (
      c.join_seat.ensures.0 ∙ inv.0,
      ap (λ m. m.1) now ∙ inv.1,
      omega (arith, d.share, parts, inv.2, c.in-Some-pop.ensures.len),
      has_more c.loop-next.seat.me.0.drawn c.join_seat.new.seat.me.0.drawn c.loop-next.left.items c.pop-in-loop-next.new.self.items c.args.drawers.items d
          c.in-Some-pop.ensures.items (ap (λ m. m.0.drawn) now) inv.3,
      front_of_all P c.pop-in-loop-next.new.self.items d (subst (λ (l : List Drawer). All P l) c.in-Some-pop.ensures.items inv.4),
    )

pub load-requires : goal.load-requires
load-requires c =
    let inv = c.loop-next.invariant in
    let p = c.args.self.now.table.shared.key in
    let drawers = ap (λ q. q.drawers) c.args.self.now.key in (
      inv.0,
      search rules,
      tallies p c.args.self.now.table.shared.table_id.slots c.loop-next.seat.id c.loop-next.seat.me (omega (arith, drawers, inv.2, c.in_default-pop.ensures.cases.0)),
    )

pub returns : goal.returns
returns c =
    let inv = c.loop-next.invariant in
    let few = c.args.self.now.few in
    each_once c.args.self.now.jobs c.load.result c.loop-next.seat.me.0.drawn c.loop-next.left.items c.args.drawers.items
    (omega (arith, c.requires.all, few.1)) (omega (arith, c.in_default-pop.ensures.cases.0)) inv.3 c.requires.done c.load.ensures.2
