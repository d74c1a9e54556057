use Rattle.counted_io.proofs.BufferedLaws.{puts-then}
use Rattle.reports.proofs.remaining.put_remaining.Goals as goal

pub returns : goal.returns
returns g c =
    rw (c.from.ensures, c.is_some-is_bounded.ensures) at
    (puts-then (puts-then (puts-then c.put_staying.ensures c.put.ensures) c.put_number.ensures) c.put_end.ensures)
