use Rattle.rebuild.proofs.marking.MoveMarks.border_size.Goals as goal

pub returns : goal.returns
returns c = λ m marked. marked.border
