use Rattle.std.specs.Prelude.{codes}
use Rattle.counted_io.proofs.BufferedLaws.{puts-then}
use Rattle.moving_commands.proofs.lines.put_frame.Goals as goal

pub returns : goal.returns
returns g c =
    let text = puts-then (puts-then (puts-then {xs = codes "frame "} c.put.ensures c.put_number.ensures) c.put-2.ensures) c.put_change.ensures in
    rw (c.from.ensures, c.from-2.ensures) at text
