use Rattle.pictures.proofs.TextLaws.{puts-drawn, puts-undrawn}
use Rattle.pictures.specs.Pictures.{single_name}
use Rattle.pictures.proofs.names.put_single_name.Goals as goal

pub returns-then-is_single_drawn_at : goal.returns-then-is_single_drawn_at
unfolding single_name
returns-then-is_single_drawn_at g c = puts-drawn c.is_single_drawn_at.ensures c.if-is_single_drawn_at.true (rw c.as_slice.ensures at c.put_name.ensures)

pub returns-else-is_single_drawn_at : goal.returns-else-is_single_drawn_at
unfolding single_name
returns-else-is_single_drawn_at g c = puts-undrawn _ c.is_single_drawn_at.ensures c.if-is_single_drawn_at.false
