use Rattle.std.specs.Prelude.{codes}
use Rattle.counted_io.proofs.BufferedLaws.{puts-then}
use Rattle.reports.proofs.audit.put_merged_latches.Goals as goal

pub returns : goal.returns
returns g c = puts-then {xs = codes "merged: yes, "} c.put.ensures (puts-then c.put_number.ensures c.put-2.ensures)
