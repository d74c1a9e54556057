use Rattle.std.specs.Prelude.{codes}
use Rattle.counted_io.proofs.BufferedLaws.{puts-then}
use Rattle.witnesses.specs.Texts.{witness_text}
use Rattle.witnesses.proofs.writing.put_witness.Goals as goal

pub returns : goal.returns
unfolding witness_text
returns g c =
    rw (c.as_slice.ensures, c.as_slice-2.ensures, c.as_slice-3.ensures) at
    (puts-then {xs = codes "1\n"} c.put.ensures (puts-then c.put_properties.ensures (puts-then c.put_row.ensures (puts-then c.put_steps.ensures c.put-2.ensures))))
