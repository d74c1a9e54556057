use Rattle.std.proofs.Common.{◌≡◌, subst}
use Rattle.aig_graph.specs.Graph.{Graph}
use Rattle.pair_checks.specs.Openings.{openings}
use Rattle.pair_checks.specs.Pairs.{IsInductive}
use Rattle.pair_checks.specs.Sides.{IsPair}
use Rattle.pair_checks.proofs.JudgeLaws.{answers}
use Rattle.pair_checks.proofs.PairLaws.{if-some}
use Rattle.pair_checks.proofs.checking.answer_by.Goals as goal

pub answer_under-requires-clause-pair : goal.answer_under-requires-clause-pair
answer_under-requires-clause-pair c =
    subst (λ (g : Graph). IsPair g c.args.second.now.aig c.args.reads.now c.in-Some.pair) c.aig.ensures.value
    (subst (λ (h : Graph). IsPair c.aig.result.now h c.args.reads.now c.in-Some.pair) c.aig-2.ensures.value (if-some _ _ c.in-Some.pair c.in-Some.is c.in_ok-found.ensures.pair))

pub returns-in_ok-answer-in-Some : goal.returns-in_ok-answer-in-Some
returns-in_ok-answer-in-Some c = λ kept places same.
    let P : Graph → Graph → Type 0 = λ g h. c.args.begins.now ≡ openings g h kept → IsInductive g h kept c.args.reads.now in
    let shown : P c.args.first.now.aig c.args.second.now.aig =
    subst (λ (g : Graph). P g c.args.second.now.aig) c.aig.ensures.value (subst (λ (h : Graph). P c.aig.result.now h) c.aig-2.ensures.value (λ begin. if-some _ _ c.in-Some.pair c.in-Some.is c.in_ok-found.ensures.inductive kept begin)) in
    answers c.args.first.now c.args.second.now kept c.args.reads.now c.in_ok-answer-in-Some.answer c.requires.shape places (shown same) c.in_ok-answer-in-Some.ensures
