use Rattle.std.specs.Prelude.{codes}
use Rattle.counted_io.proofs.BufferedLaws.{puts-then}
use Rattle.witnesses.specs.Texts.{reached_text}
use Rattle.witnesses.proofs.writing.put_reached.Goals as goal

pub returns : goal.returns
unfolding reached_text
returns g c =
    puts-then {xs = codes "c "} c.put.ensures
    (puts-then c.put_property.ensures (puts-then {xs = codes " holds at step "} c.put-2.ensures (puts-then c.put_number.ensures c.put_byte.ensures)))
