use Rattle.std.specs.Prelude.{codes}
use Rattle.counted_io.proofs.BufferedLaws.{puts-then}
use Rattle.reports.proofs.audit.put_objection.Goals as goal

pub returns : goal.returns
returns g c =
    puts-then {xs = codes "block "} c.put.ensures (puts-then c.put_number.ensures (puts-then {xs = codes ": no, "} c.put-2.ensures (puts-then c.put_name.ensures c.put_byte.ensures)))
