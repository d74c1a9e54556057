use Rattle.pictures.proofs.TextLaws.{puts-drawn, puts-undrawn}
use Rattle.pictures.specs.Pictures.{justice_name}
use Rattle.pictures.proofs.names.put_justice_name.Goals as goal

pub returns-then-is_drawn_at : goal.returns-then-is_drawn_at
unfolding justice_name
returns-then-is_drawn_at g c = puts-drawn c.is_drawn_at.ensures c.if-is_drawn_at.true (rw c.as_slice.ensures at c.put_name.ensures)

pub returns-else-is_drawn_at : goal.returns-else-is_drawn_at
unfolding justice_name
returns-else-is_drawn_at g c = puts-undrawn _ c.is_drawn_at.ensures c.if-is_drawn_at.false
