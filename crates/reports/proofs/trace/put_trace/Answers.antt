use Rattle.std.proofs.Common.{◌≡◌, length, arith}
use Rattle.reports.proofs.TraceTextLaws.{puts-up}
use Rattle.reports.specs.Traces.{sequence_at, sequences_at}
use Rattle.reports.proofs.trace.put_trace.Goals as goal

pub loop-sequence-preserved : goal.loop-sequence-preserved
loop-sequence-preserved g c =
    puts-up (sequence_at c.args.trace.now) c.loop-sequence.sequence c.loop-sequence.invariant c.put_sequence.ensures

pub returns : goal.returns
unfolding sequences_at
returns g c =
    let end : c.loop-sequence.sequence ≡ length c.args.trace.now = omega (arith, c.loop-sequence-test.false, c.sequences-sequence-end.ensures) in
    rw end at c.loop-sequence.invariant
