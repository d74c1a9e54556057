use Rattle.std.proofs.Common.{◌≡◌, ◌-◌, All}
use Rattle.batch_pool.specs.Drawing.{IsDrawerOf, IsGoing, drawn, jobs_of}
use Rattle.batch_pool.proofs.RisingLaws.{after_last}
use Rattle.batch_pool.specs.Sharing.{IsOutcome, numbers}
use Rattle.batch_pool.proofs.share.drawn_out.Given as goal

abbrev pub invariant-loop-number : goal.invariant-loop-number
invariant-loop-number g l =
    IsDrawerOf l.draws l.drawer × IsGoing l.draws l.drawer × (drawn l.drawer ≡ numbers l.done.items)
    × All (IsOutcome (goal.F-post g l.run) (jobs_of l.draws)) l.done.items

abbrev pub decreases-loop-number : goal.decreases-loop-number
decreases-loop-number g l = jobs_of l.draws - after_last (drawn l.drawer)
