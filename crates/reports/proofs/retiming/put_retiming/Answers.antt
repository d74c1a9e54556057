use Rattle.std.specs.Prelude.{codes}
use Rattle.counted_io.proofs.BufferedLaws.{puts-then}
use Rattle.reports.proofs.retiming.put_retiming.Goals as goal

pub returns : goal.returns
returns g c =
    rw (c.as_slice.ensures, c.from.ensures, c.latches.ensures.value, c.aig.ensures.value) at
    (puts-then (puts-then {ys = codes "latches "} c.put_frames.ensures c.put.ensures) c.put_change.ensures)
