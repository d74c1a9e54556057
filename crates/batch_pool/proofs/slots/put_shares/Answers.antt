use Rattle.std.proofs.Common.{ℕ, ◌<◌, List, All, IfOk, Result, arith, sym, subst, ◌∙◌}
use Rattle.aig_graph.specs.declared.memory.NoMemory.{NoMemory}
use Rattle.batch_pool.specs.declared.draws.Drawer.{Drawer}
use Rattle.batch_pool.specs.Drawing.{IsDrawerOf, IsDone, jobs_of}
use Rattle.batch_pool.proofs.GatheringLaws.{last_of_all, front_of_all}
use Rattle.batch_pool.specs.declared.share.Share.{Share}
use Rattle.batch_pool.specs.Sharing.{IsOutcome, IsShare}
use Rattle.batch_pool.proofs.SharingLaws.{all_filled, all_snoc, share_covers}
use Rattle.batch_pool.proofs.slots.put_shares.Goals as goal

pub returns-in_err-back-clause-len : goal.returns-in_err-back-clause-len
returns-in_err-back-clause-len g c = c.requires.len

pub returns-in_err-back-clause-slots : goal.returns-in_err-back-clause-slots
returns-in_err-back-clause-slots g c = c.requires.slots

pub returns-in_err-drawer-clause-len : goal.returns-in_err-drawer-clause-len
returns-in_err-drawer-clause-len g c = c.loop-next.invariant.0

pub returns-in_err-drawer-clause-slots : goal.returns-in_err-drawer-clause-slots
returns-in_err-drawer-clause-slots g c = c.loop-next.invariant.1

pub put_outcomes-requires-clause-slots : goal.put_outcomes-requires-clause-slots
put_outcomes-requires-clause-slots g c = c.loop-next.invariant.1

pub put_outcomes-requires-clause-outcomes : goal.put_outcomes-requires-clause-outcomes
put_outcomes-requires-clause-outcomes g c =
    let A : Type 0 = Result (Share g.row.X.Denot) NoMemory in
    let P : A → Type 0 = λ s. IfOk s (IsShare (goal.F-post g c.args.run.now) c.args.draws.now) in
    let inv = c.loop-next.invariant in
    let all = subst (λ (l : List A). All P l) c.in-Some.ensures.items inv.2 in
    let one = subst P c.in_ok-drawer.was (last_of_all P c.pop.new.self.items c.in-Some.next all) in
    subst (λ (jobs : ℕ). All (IsOutcome (goal.F-post g c.args.run.now) jobs) c.in_ok-drawer.field-0.done.items) (sym inv.0) one.outcomes

pub gather-requires-clause-mine : goal.gather-requires-clause-mine
gather-requires-clause-mine g c = c.loop-next.invariant.5

pub gather-requires-clause-done : goal.gather-requires-clause-done
gather-requires-clause-done g c = c.loop-next.invariant.6

pub returns-clause-len : goal.returns-clause-len
returns-clause-len g c = c.loop-next.invariant.0

pub returns-clause-slots : goal.returns-clause-slots
returns-clause-slots g c = c.loop-next.invariant.1

pub returns-clause-filled : goal.returns-clause-filled
returns-clause-filled g c =
    let inv = c.loop-next.invariant in
    all_filled c.loop-next.slots.items (λ k lt.
    let job : k < jobs_of c.args.draws.now = omega (arith, lt, inv.0) in
    inv.7 k job (omega (arith, c.gather.ensures k job)))

pub loop-next-smaller : goal.loop-next-smaller
loop-next-smaller g c = omega (arith, c.in-Some.ensures.len)

pub loop-next-preserved : goal.loop-next-preserved
loop-next-preserved g c =
    let A : Type 0 = Result (Share g.row.X.Denot) NoMemory in
    let P : A → Type 0 = λ s. IfOk s (IsShare (goal.F-post g c.args.run.now) c.args.draws.now) in
    let inv = c.loop-next.invariant in
    let rest = c.pop.new.self.items in
    let d = c.in_ok-drawer.field-0.drawer in
    let all = subst (λ (l : List A). All P l) c.in-Some.ensures.items inv.2 in
    let one = subst P c.in_ok-drawer.was (last_of_all P rest c.in-Some.next all) in
    let pushed = c.push_reserved.ensures.items in (
      c.put_outcomes.ensures.len ∙ inv.0,
      c.put_outcomes.ensures.slots,
      front_of_all P rest c.in-Some.next all,
      omega (arith, inv.3, c.in-Some.ensures.len, c.push_reserved.ensures.len),
      omega (arith, inv.4, c.push_reserved.ensures.capacity),
      subst (λ (l : List Drawer). All (IsDrawerOf c.args.draws.now) l) (sym pushed) (all_snoc (IsDrawerOf c.args.draws.now) c.loop-next.back.items d inv.5 one.mine),
      subst (λ (l : List Drawer). All (IsDone c.args.draws.now) l) (sym pushed) (all_snoc (IsDone c.args.draws.now) c.loop-next.back.items d inv.6 one.done),
      share_covers (jobs_of c.args.draws.now) c.loop-next.slots.items c.put_outcomes.new.slots.items c.loop-next.back.items c.push_reserved.new.self.items d c.in_ok-drawer.field-0.done.items pushed
          one.numbered c.put_outcomes.ensures.filled inv.7,
    )
