use Rattle.std.proofs.Common.{◌∙◌}
use Rattle.rebuild.proofs.marking.MoveMarks.members.Goals as goal

pub returns : goal.returns
returns c = λ m marked. c.as_slice.ensures.value ∙ marked.members
