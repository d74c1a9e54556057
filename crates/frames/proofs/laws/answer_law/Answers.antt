use Rattle.frames.proofs.AnswerLaws.{one-answer}
use Rattle.frames.proofs.laws.answer_law.Goals as goal

pub returns : goal.returns
returns c = one-answer
