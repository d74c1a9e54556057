use Rattle.std.proofs.Common.{◌≡◌, [], length, get_or, arith}
use Rattle.reports.proofs.TraceTextLaws.{puts-up}
use Rattle.reports.specs.Traces.{digit_at, values_at}
use Rattle.reports.proofs.trace.put_values.Goals as goal

pub loop-place-preserved : goal.loop-place-preserved
loop-place-preserved g c =
    puts-up (digit_at c.args.trace.now c.args.sequence c.args.step) c.loop-place.place c.loop-place.invariant c.put_value.ensures

pub returns : goal.returns
unfolding values_at
returns g c =
    let end : c.loop-place.place ≡ length (get_or (get_or c.args.trace.now c.args.sequence []) c.args.step []) = omega (arith, c.loop-place-test.false, c.places-place-end.ensures) in
    rw end at c.loop-place.invariant
