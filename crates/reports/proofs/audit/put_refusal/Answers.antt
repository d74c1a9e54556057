use Rattle.std.specs.Prelude.{codes}
use Rattle.counted_io.proofs.BufferedLaws.{puts-then}
use Rattle.reports.proofs.audit.put_refusal.Goals as goal

pub returns : goal.returns
returns g c =
    rw c.from.ensures at
    (puts-then {xs = codes "merged: no, "} c.put.ensures (puts-then c.put-2.ensures (puts-then c.put_byte.ensures (puts-then c.put_number.ensures c.put_byte-2.ensures))))
