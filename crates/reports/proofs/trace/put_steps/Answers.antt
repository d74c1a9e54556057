use Rattle.std.proofs.Common.{◌≡◌, [], length, get_or, arith}
use Rattle.reports.proofs.TraceTextLaws.{puts-up}
use Rattle.reports.specs.Traces.{step_at, steps_at}
use Rattle.reports.proofs.trace.put_steps.Goals as goal

pub loop-step-preserved : goal.loop-step-preserved
loop-step-preserved g c =
    puts-up (step_at c.args.trace.now c.args.sequence) c.loop-step.step c.loop-step.invariant c.put_step.ensures

pub returns : goal.returns
unfolding steps_at
returns g c =
    let end : c.loop-step.step ≡ length (get_or c.args.trace.now c.args.sequence []) = omega (arith, c.loop-step-test.false, c.steps-step-end.ensures) in
    rw end at c.loop-step.invariant
