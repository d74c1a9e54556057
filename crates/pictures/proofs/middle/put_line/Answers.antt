use Rattle.counted_io.proofs.BufferedLaws.{puts-then}
use Rattle.std.proofs.Common.{refl}
use Rattle.pictures.proofs.TextLaws.{puts-drawn, puts-undrawn}
use Rattle.pictures.specs.Pictures.{centre_line, red_line}
use Rattle.pictures.proofs.middle.put_line.Goals as goal

pub returns-then-is_centre : goal.returns-then-is_centre
unfolding centre_line red_line
returns-then-is_centre g c = puts-drawn refl c.if-is_centre.true (puts-then c.put_number.ensures c.put.ensures)

pub returns-else-is_centre : goal.returns-else-is_centre
unfolding centre_line
returns-else-is_centre g c = puts-undrawn _ refl c.if-is_centre.false
