use Rattle.counted_io.proofs.BufferedLaws.{puts-then}
use Rattle.aag_text.proofs.symbols.put_symbols.Goals as goal

pub returns : goal.returns
returns g c =
    rw (c.as_slice.ensures, c.as_slice-2.ensures, c.as_slice-3.ensures, c.as_slice-4.ensures, c.as_slice-5.ensures, c.as_slice-6.ensures, c.as_slice-7.ensures) at
    (puts-then (puts-then (puts-then (puts-then (puts-then (puts-then c.put_kind.ensures c.put_kind-2.ensures) c.put_kind-3.ensures)
    c.put_kind-4.ensures) c.put_kind-5.ensures) c.put_kind-6.ensures) c.put_kind-7.ensures)
