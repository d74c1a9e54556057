use Rattle.std.specs.Prelude.{codes}
use Rattle.counted_io.proofs.BufferedLaws.{puts-then}
use Rattle.reports.specs.waves.Dumps.{dump_header}
use Rattle.reports.proofs.waves.dump.put_head.Goals as goal

pub returns : goal.returns
unfolding dump_header
returns g c = puts-then {xs = codes "$timescale 1 ns $end\n"} c.put.ensures (puts-then c.put_scopes.ensures c.put-2.ensures)
