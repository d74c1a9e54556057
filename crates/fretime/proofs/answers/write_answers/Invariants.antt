use Rattle.std.proofs.Common.{All, take}
use Rattle.circuit_files.specs.WrittenFiles.{IsFileGiven}
use Rattle.fretime.specs.Answers.{IsWritten}
use Rattle.fretime.proofs.answers.write_answers.Given as goal

abbrev pub invariant-loop-answer : goal.invariant-loop-answer
invariant-loop-answer g l = All (IsWritten (IsFileGiven g.R.Output.Write.contents g.R.OutputFiles.is_made g.R.OutputFiles.is_let_go)) (take l.answer-index l.answers)
