use Rattle.std.proofs.Common.{arith, ap, length, map, refl}
use Rattle.fretime.specs.declared.answers.Answer.{Answer}
use Rattle.fretime.proofs.AnswerLaws.{all_answers, one_more_answer}
use Rattle.fretime.proofs.answers.answers_of.Goals as goal

pub loop-k-init : goal.loop-k-init
loop-k-init c =
    let none = c.in_ok-answers.ensures.items in
    record {
      are = record { outputs = ap (map (λ (a : Answer). a.output.now)) none; outcomes_are = ap (map (λ (a : Answer). a.outcome.now)) none };
      long = ap length none;
      room = c.in_ok-answers.ensures.capacity;
    }

pub push_reserved-requires : goal.push_reserved-requires
push_reserved-requires c = omega (arith, c.loop-k.invariant.long, c.loop-k.invariant.room, c.loop-k-test.true)

pub loop-k-preserved : goal.loop-k-preserved
loop-k-preserved c =
    let before = c.loop-k.invariant in
    record {
      are =
          one_more_answer c.args.entries.now c.args.outcomes.now c.loop-k.k _ c.index-outcomes-k.result _ _ _ (omega (arith, c.loop-k-test.true, c.requires)) c.loop-k-test.true c.index-outcomes-k.is refl
          refl before.are c.push_reserved.ensures.items;
      long = omega (arith, before.long, c.push_reserved.ensures.len);
      room = omega (arith, before.room, c.push_reserved.ensures.capacity);
    }

pub returns : goal.returns
returns c = all_answers c.args.entries.now c.args.outcomes.now c.loop-k.k c.loop-k.answers.items (omega (arith, c.loop-k-test.false)) c.requires c.loop-k.invariant.are
