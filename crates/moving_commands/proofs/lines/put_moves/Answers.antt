use Rattle.std.specs.Prelude.{codes}
use Rattle.counted_io.proofs.BufferedLaws.{puts-then}
use Rattle.moving_commands.proofs.lines.put_moves.Goals as goal

pub returns : goal.returns
returns g c =
    rw (c.latches.ensures.value, c.aig.ensures.value) at
    (puts-then (puts-then (puts-then {ys = codes "latches "} c.put_taken.ensures c.put.ensures) c.put_change.ensures) c.put_end.ensures)
