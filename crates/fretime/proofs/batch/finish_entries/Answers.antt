use Rattle.std.proofs.Common.{List, sym, subst}
use Rattle.circuit_files.specs.WrittenFiles.{IsFileGiven}
use Rattle.fretime.specs.declared.answers.Answer.{Answer}
use Rattle.fretime.specs.Answers.{AreAnswersOf}
use Rattle.fretime.proofs.AnswerLaws.{printed_of, written_of}
use Rattle.fretime.proofs.batch.finish_entries.Goals as goal

pub returns-in-Ok-clause-ok : goal.returns-in-Ok-clause-ok
returns-in-Ok-clause-ok g c =
    let are = subst (λ (answers : List Answer). AreAnswersOf c.args.entries.now c.args.outcomes.now answers) (sym c.as_slice.ensures.value) c.in-Ok.ensures in
    printed_of c.args.task.now.json c.args.entries.now c.args.outcomes.now c.as_slice.result.now _ _ c.finish-finished.result are c.finish-finished.ensures.ok

pub returns-in-Ok-clause-written : goal.returns-in-Ok-clause-written
returns-in-Ok-clause-written g c =
    let are = subst (λ (answers : List Answer). AreAnswersOf c.args.entries.now c.args.outcomes.now answers) (sym c.as_slice.ensures.value) c.in-Ok.ensures in
    written_of (IsFileGiven g.R.Output.Write.contents g.R.OutputFiles.is_made g.R.OutputFiles.is_let_go) c.args.entries.now c.args.outcomes.now c.as_slice.result.now c.finish-finished.result are c.finish-finished.ensures.written
