use Rattle.unit_refutations.proofs.SignLaws.{true-false}
use Rattle.unit_refutations.proofs.propagating.propagate.Goals as goal

pub returns-then-branch : goal.returns-then-branch
returns-then-branch c = λ values respects holds.
    let both = c.in_ok-visit_place.ensures values respects (c.loop-step.invariant values respects holds) in
    absurd (true-false _ c.if-branch.true both.0)

pub loop-step-preserved : goal.loop-step-preserved
loop-step-preserved c = λ values respects holds. (c.in_ok-visit_place.ensures values respects (c.loop-step.invariant values respects holds)).1
