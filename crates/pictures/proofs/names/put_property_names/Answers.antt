use Rattle.counted_io.proofs.BufferedLaws.{puts-then}
use Rattle.pictures.specs.Pictures.{property_names}
use Rattle.pictures.proofs.names.put_property_names.Goals as goal

pub returns : goal.returns
unfolding property_names
returns g c =
    let outputs = rw (c.as_slice.ensures, c.as_slice-2.ensures) at c.put_single_names.ensures in
    let bad = rw (c.as_slice-3.ensures, c.as_slice-4.ensures) at c.put_single_names-2.ensures in
    let constraints = rw (c.as_slice-5.ensures, c.as_slice-6.ensures) at c.put_single_names-3.ensures in
    let justice = rw (c.as_slice-7.ensures, c.as_slice-8.ensures) at c.put_justice_names.ensures in
    let fairness = rw (c.as_slice-9.ensures, c.as_slice-10.ensures) at c.put_single_names-4.ensures in
    puts-then outputs (puts-then bad (puts-then constraints (puts-then justice fairness)))
