use Rattle.std.specs.Prelude.{codes}
use Rattle.counted_io.proofs.BufferedLaws.{puts-then}
use Rattle.reports.proofs.audit.put_block.Goals as goal

pub returns : goal.returns
returns g c =
    rw c.from.ensures at
    (puts-then {xs = codes "block "} c.put.ensures (puts-then c.put_number.ensures (puts-then {xs = codes ": yes, count "} c.put-2.ensures (puts-then c.put_number-2.ensures c.put_byte.ensures))))
