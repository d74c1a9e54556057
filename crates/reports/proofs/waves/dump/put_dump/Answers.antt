use Rattle.std.proofs.Common.{ap, length, sym}
use Rattle.counted_io.proofs.BufferedLaws.{puts-then}
use Rattle.reports.specs.waves.Dumps.{waves_text}
use Rattle.reports.proofs.WaveMomentLaws.{trace-length}
use Rattle.reports.proofs.waves.dump.put_dump.Goals as goal

pub put_start-requires : goal.put_start-requires
put_start-requires g c = rw c.as_slice.ensures c.requires

pub returns : goal.returns
unfolding waves_text
returns g c =
    let names = c.args.names.now in
    let same = c.as_slice.ensures in
    let many = trace-length c.args.circuit.now c.args.stimulus.now in
    puts-then (rw (ap length same, sym many) at c.put_head.ensures) (puts-then (rw same at c.put_start.ensures.puts) (rw same at c.put_times.ensures))
