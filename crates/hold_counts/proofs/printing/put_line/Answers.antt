use Rattle.std.specs.Prelude.{codes}
use Rattle.counted_io.proofs.BufferedLaws.{puts-then}
use Rattle.hold_counts.proofs.printing.put_line.Goals as goal

pub returns : goal.returns
returns g c =
    let latches = puts-then {xs = codes "latches that hold "} c.put.ensures c.put_number.ensures in
    puts-then (puts-then (puts-then latches c.put-2.ensures) c.put_number-2.ensures) c.put-3.ensures
