use Rattle.std.specs.Prelude.{codes}
use Rattle.counted_io.proofs.BufferedLaws.{puts-then}
use Rattle.reports.specs.Differences.{place_text}
use Rattle.reports.proofs.difference.put_place.Goals as goal

pub returns : goal.returns
unfolding place_text
returns g c =
    puts-then {xs = codes "differ at sequence "} c.put.ensures (puts-then c.put_number.ensures (puts-then {xs = codes ", step "} c.put-2.ensures
    (puts-then c.put_number-2.ensures (puts-then {xs = codes ", place "} c.put-3.ensures (puts-then c.put_number-3.ensures c.put_byte.ensures)))))
