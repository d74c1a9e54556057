use Rattle.std.proofs.Common.{◌≡◌, arith}
use Rattle.reports.specs.waves.Dumps.{value_at, values_of}
use Rattle.reports.specs.waves.Moments.{trace_of}
use Rattle.reports.proofs.WaveDumpLaws.{puts-up}
use Rattle.reports.proofs.waves.values.put_sequence.Goals as goal

pub loop-place-preserved : goal.loop-place-preserved
loop-place-preserved g c =
    let m = c.args.moment.now in
    puts-up (value_at (trace_of m) m.time c.args.sequence) c.loop-place.place c.loop-place.invariant c.put_value.ensures

pub returns : goal.returns
unfolding values_of
returns g c =
    let end : c.loop-place.place ≡ c.args.places = omega (arith, c.loop-place-test.false, c.loop-place.auto.place-end) in
    rw end at c.loop-place.invariant
