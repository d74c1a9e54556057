use Rattle.std.specs.Prelude.{codes}
use Rattle.counted_io.proofs.BufferedLaws.{puts-then}
use Rattle.reports.specs.waves.Dumps.{scope_text}
use Rattle.reports.proofs.waves.dump.put_scope.Goals as goal

pub returns : goal.returns
unfolding scope_text
returns g c =
    puts-then {xs = codes "$scope module sequence"} c.put.ensures (puts-then c.put_number.ensures (puts-then {xs = codes " $end\n"} c.put-2.ensures
    (puts-then c.put_waves.ensures c.put-3.ensures)))
