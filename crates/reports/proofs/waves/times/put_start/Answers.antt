use Rattle.std.specs.Prelude.{codes}
use Rattle.counted_io.proofs.BufferedLaws.{puts-then}
use Rattle.reports.specs.waves.Dumps.{dump_start}
use Rattle.reports.proofs.waves.times.put_start.Goals as goal

pub returns-clause-puts : goal.returns-clause-puts
unfolding dump_start
returns-clause-puts g c = puts-then {xs = codes "#0\n$dumpvars\n"} c.put.ensures (puts-then c.put_opening.ensures.puts c.put-2.ensures)
