use Rattle.circuit_files.specs.WrittenFiles.{IsFileGiven}
use Rattle.fretime.proofs.AnswerLaws.{one_more_written}
use Rattle.fretime.proofs.BatchLaws.{file_done}
use Rattle.fretime.proofs.batch.finish_jobs.Goals as goal

pub loop-k-preserved : goal.loop-k-preserved
loop-k-preserved g c = (
  file_done c.args.answers.now c.loop-k.k c.index-answers-k.result c.loop-k.ended _ c.in_ok-report.report _ _ _ c.loop-k-test.true c.index-answers-k.is
      c.in_ok-report.ensures.ok.0 c.after-ended.ensures c.loop-k.invariant.0 c.in_ok-report.ensures.ok.1,
  one_more_written (IsFileGiven g.R.Output.Write.contents g.R.OutputFiles.is_made g.R.OutputFiles.is_let_go) c.args.answers.now c.loop-k.k c.index-answers-k.result c.loop-k-test.true
      c.index-answers-k.is c.loop-k.invariant.1 c.in_ok-report.ensures.written,
)
