use Rattle.pictures.proofs.MarkLaws.{marks-where, marks-nowhere}
use Rattle.pictures.specs.Near.{names_justice}
use Rattle.pictures.proofs.named.mark_justice_property.Goals as goal

pub returns-then-is_called : goal.returns-then-is_called
unfolding names_justice
returns-then-is_called c = marks-where _ _ _ _ _ c.is_called.ensures c.if-is_called.true c.mark_justice.ensures

pub returns-else-is_called : goal.returns-else-is_called
unfolding names_justice
returns-else-is_called c = marks-nowhere _ _ _ _ c.is_called.ensures c.if-is_called.false
