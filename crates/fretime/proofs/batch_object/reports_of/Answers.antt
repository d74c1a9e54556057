use Rattle.std.proofs.Common.{◌∙◌, arith, ap, length, map}
use Rattle.std.proofs.lemmas.List.{take_all}
use Rattle.fretime.specs.Answers.{report_at}
use Rattle.fretime.proofs.AnswerLaws.{one_more_report}
use Rattle.fretime.proofs.batch_object.reports_of.Goals as goal

pub loop-answer-init : goal.loop-answer-init
loop-answer-init c = record { made = c.in_ok-reports.ensures.items; long = ap length c.in_ok-reports.ensures.items; room = c.in_ok-reports.ensures.capacity }

pub push_reserved-requires : goal.push_reserved-requires
push_reserved-requires c = omega (arith, c.loop-answer.invariant.long, c.loop-answer.invariant.room, c.loop-answer-test.true)

pub loop-answer-preserved : goal.loop-answer-preserved
loop-answer-preserved c =
    let before = c.loop-answer.invariant in
    record {
      made =
          one_more_report c.args.answers.now c.loop-answer.answer-index c.answer-item.result _ _ c.report_of.result c.loop-answer-test.true c.answer-item.is c.report_of.ensures before.made
          c.push_reserved.ensures.items;
      long = omega (arith, before.long, c.push_reserved.ensures.len);
      room = omega (arith, before.room, c.push_reserved.ensures.capacity);
    }

pub returns : goal.returns
returns c = c.loop-answer.invariant.made ∙ ap (map report_at) (take_all c.loop-answer.answer-index c.args.answers.now (omega (arith, c.loop-answer-test.false)))
