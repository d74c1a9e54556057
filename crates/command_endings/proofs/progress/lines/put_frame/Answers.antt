use Rattle.std.specs.Prelude.{codes}
use Rattle.counted_io.proofs.BufferedLaws.{puts-then}
use Rattle.command_endings.proofs.progress.lines.put_frame.Goals as goal

pub returns : goal.returns
returns g c =
    let number = puts-then {xs = codes "frame "} c.put.ensures c.put_number.ensures in
    let doing = puts-then (puts-then {ys = codes ": "} number c.put-2.ensures) c.put-3.ensures in
    let latches = puts-then (puts-then {ys = codes "known latches "} doing c.put-4.ensures) (rw c.from.ensures at c.put_number-2.ensures) in
    puts-then (puts-then {ys = codes ", gates "} latches c.put-5.ensures) c.put_number-3.ensures
