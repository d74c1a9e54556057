use Rattle.std.proofs.Common.{◌≡◌, ◌≤◌, length, map, take, vec_capacity}
use Rattle.fretime.specs.Answers.{report_at}
use Rattle.fretime.proofs.batch_object.reports_of.Given as goal

abbrev pub invariant-loop-answer : goal.invariant-loop-answer
invariant-loop-answer l = record {
  made : l.reports.items ≡ map report_at (take l.answer-index l.answers);
  long : length l.reports.items ≡ l.answer-index;
  room : length l.answers ≤ vec_capacity l.reports;
}
