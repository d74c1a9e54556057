use Rattle.std.specs.Prelude.{codes}
use Rattle.counted_io.proofs.BufferedLaws.{puts-byte, puts-then}
use Rattle.reports.specs.waves.Dumps.{wave_line}
use Rattle.reports.proofs.waves.dump.put_wave.Goals as goal

pub returns : goal.returns
unfolding wave_line
returns g c =
    puts-then {xs = codes "$var wire 1 "} c.put.ensures (puts-then c.put_code.ensures (puts-byte c.put_byte.ensures (puts-then c.put-2.ensures c.put-3.ensures)))
