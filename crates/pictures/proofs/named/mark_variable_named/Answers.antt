use Rattle.pictures.specs.Near.{names_variable}
use Rattle.pictures.proofs.named.mark_variable_named.Goals as goal

pub returns : goal.returns
unfolding names_variable
returns c = rw c.is_called.ensures at c.mark_where.ensures
