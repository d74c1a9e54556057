use Rattle.std.proofs.Common.{arith}
use Rattle.command_endings.specs.declared.progress.laps.Part.TheVariants.{Reading}
use Rattle.command_endings.proofs.LapLaws.{total-end, total-more}
use Rattle.command_endings.proofs.progress.laps.time_in.Goals as goal

pub loop-lap-preserved : goal.loop-lap-preserved
loop-lap-preserved c =
    let more = total-more c.args.laps.now c.loop-lap.lap-index (record { part = Reading; microseconds = 0 }) c.loop-lap-test.true c.args.part in
    record {
      fits = omega (arith, c.saturating_add-total.ensures);
      so_far = omega (arith, c.saturating_add-total.ensures, c.time_of.ensures, more, c.loop-lap.invariant.so_far);
    }

pub returns : goal.returns
returns c =
    let none = total-end c.args.part c.args.laps.now c.loop-lap.lap-index (omega (arith, c.loop-lap-test.false)) in
    omega (arith, none, c.loop-lap.invariant.fits, c.loop-lap.invariant.so_far)
