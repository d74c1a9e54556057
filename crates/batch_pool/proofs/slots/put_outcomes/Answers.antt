use Rattle.std.proofs.Common.{ℕ, List, All, Some, length, length-set, sym, ap, ◌∙◌, subst}
use Rattle.batch_pool.proofs.GatheringLaws.{last_of_all, front_of_all}
use Rattle.batch_pool.specs.declared.share.Numbered.{Numbered}
use Rattle.batch_pool.specs.Sharing.{IsOutcome}
use Rattle.batch_pool.proofs.SharingLaws.{put_covers, put_slots}
use Rattle.batch_pool.proofs.slots.put_outcomes.Goals as goal

pub loop-next-preserved : goal.loop-next-preserved
loop-next-preserved g c =
    let gives : ℕ → g.row.X.Denot → Type 0 = goal.F-post g c.args.run.now in
    let slots = c.loop-next.slots.items in
    let P : Numbered g.row.X.Denot → Type 0 = IsOutcome gives (length slots) in
    let inv = c.loop-next.invariant in
    let n = c.in-Some.next in
    let rest = c.pop.new.self.items in
    let is = c.in-Some.ensures.items in
    let all = subst (λ (l : List (Numbered g.row.X.Denot)). All P l) is inv.2 in
    let one = last_of_all P rest n all in
    let put = c.put_outcome.ensures in
    let same = ap length put ∙ length-set slots n.number (Some n.outcome) in (
      same ∙ inv.0,
      put_slots gives slots c.put_outcome.new.slots.items n inv.1 one put,
      subst (λ (count : ℕ). All (IsOutcome gives count) rest) (sym same) (front_of_all P rest n all),
      λ k h. put_covers slots c.put_outcome.new.slots.items c.loop-next.left.items rest n one.0 is put k (inv.3 k h),
    )
