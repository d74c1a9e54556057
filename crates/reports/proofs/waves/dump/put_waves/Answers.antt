use Rattle.reports.specs.waves.Dumps.{wave_line}
use Rattle.reports.proofs.WaveDumpLaws.{puts-numbered_up}
use Rattle.reports.proofs.waves.dump.put_waves.Goals as goal

pub loop-k-preserved : goal.loop-k-preserved
loop-k-preserved g c =
    puts-numbered_up (wave_line c.args.sequence) c.args.names.now c.loop-k.k _ c.loop-k-test.true c.index-names-k.is c.loop-k.invariant
    (rw c.as_slice.ensures at c.put_wave.ensures)
