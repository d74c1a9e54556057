use Rattle.counted_io.proofs.BufferedLaws.{puts-then}
use Rattle.aag_text.proofs.properties.put_properties.Goals as goal

pub returns : goal.returns
returns g c =
    rw (c.as_slice.ensures, c.as_slice-2.ensures, c.as_slice-3.ensures, c.as_slice-4.ensures, c.as_slice-5.ensures, c.as_slice-6.ensures) at
    (puts-then (puts-then (puts-then (puts-then (puts-then c.put_literals.ensures c.put_literals-2.ensures) c.put_literals-3.ensures)
    c.put_justice_sizes.ensures) c.put_justice.ensures) c.put_literals-4.ensures)
