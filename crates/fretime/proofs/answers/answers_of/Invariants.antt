use Rattle.std.proofs.Common.{◌≡◌, ◌≤◌, length, take, vec_capacity}
use Rattle.fretime.specs.Answers.{AreAnswersOf}
use Rattle.fretime.proofs.answers.answers_of.Given as goal

abbrev pub invariant-loop-k : goal.invariant-loop-k
invariant-loop-k l = record {
  are : AreAnswersOf (take l.k l.entries) (take l.k l.outcomes) l.answers.items;
  long : length l.answers.items ≡ l.k;
  room : length l.outcomes ≤ vec_capacity l.answers;
}
