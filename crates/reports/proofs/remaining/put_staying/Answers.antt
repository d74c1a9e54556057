use Rattle.std.specs.Prelude.{codes}
use Rattle.counted_io.proofs.BufferedLaws.{puts-then}
use Rattle.reports.proofs.remaining.put_staying.Goals as goal

pub returns : goal.returns
returns g c =
    let free = puts-then {xs = codes "latches that stay: free "} c.put.ensures c.put_number.ensures in
    let held = puts-then (puts-then free c.put-2.ensures) c.put_number-2.ensures in
    let elsewhere = puts-then (puts-then held c.put-3.ensures) c.put_number-3.ensures in
    let long = puts-then elsewhere c.put_too_long.ensures in
    let text = puts-then (puts-then (puts-then long c.put-4.ensures) c.put_number-4.ensures) c.put_byte.ensures in
    rw (c.from.ensures, c.from-2.ensures, c.from-3.ensures, c.movable_lead.ensures, c.movable.ensures) at text
