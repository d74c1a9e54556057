use Rattle.pictures.proofs.MarkLaws.{marks-where, marks-nowhere}
use Rattle.pictures.specs.Near.{names_single}
use Rattle.pictures.proofs.named.mark_single_named.Goals as goal

pub returns-then-is_called : goal.returns-then-is_called
unfolding names_single
returns-then-is_called c = marks-where _ _ _ _ _ c.is_called.ensures c.if-is_called.true c.mark_single.ensures

pub returns-else-is_called : goal.returns-else-is_called
unfolding names_single
returns-else-is_called c = marks-nowhere _ _ _ _ c.is_called.ensures c.if-is_called.false
