use Rattle.counted_io.proofs.BufferedLaws.{puts-then}
use Rattle.pictures.specs.Pictures.{all_properties}
use Rattle.pictures.proofs.properties.put_properties.Goals as goal

pub returns : goal.returns
unfolding all_properties
returns g c =
    rw (c.as_slice.ensures, c.as_slice-2.ensures, c.as_slice-3.ensures, c.as_slice-4.ensures, c.as_slice-5.ensures) at
    (puts-then c.put_singles.ensures (puts-then c.put_singles-2.ensures (puts-then c.put_singles-3.ensures (puts-then c.put_justice.ensures c.put_singles-4.ensures))))
