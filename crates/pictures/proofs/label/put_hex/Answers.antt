use Rattle.std.specs.Prelude.{codes}
use Rattle.counted_io.proofs.BufferedLaws.{puts-byte, puts-then}
use Rattle.pictures.specs.Labels.{hex_byte}
use Rattle.pictures.proofs.label.put_hex.Goals as goal

pub returns : goal.returns
unfolding hex_byte
returns g c =
    rw (c.hex_digit.ensures, c.hex_digit-2.ensures) at
    (puts-then {xs = codes "\\\\x"} c.put.ensures (puts-byte c.put_byte.ensures c.put_byte-2.ensures))
