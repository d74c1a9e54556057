use Rattle.std.proofs.Common.{ℕ, List, refl, subst}
use Rattle.aig_graph.specs.Graph.{first_latch}
use Rattle.pair_checks.specs.Openings.{BeginAlike, openings}
use Rattle.pair_checks.proofs.JudgeLaws.{inductive}
use Rattle.pair_checks.proofs.PairLaws.{if-some}
use Rattle.pair_checks.proofs.judging.judged.Goals as goal

pub returns-then-branch-clause-inductive : goal.returns-then-branch-clause-inductive
returns-then-branch-clause-inductive c = λ kept same.
    let begin : BeginAlike (first_latch c.args.first.now) (openings c.args.first.now c.args.second.now kept) c.args.reads.now =
    subst (λ (xs : List ℕ). BeginAlike (first_latch c.args.first.now) xs c.args.reads.now) same
    (subst (λ (n : ℕ). BeginAlike n c.args.begins.now c.args.reads.now) c.first_latch.ensures.value (c.if-not-begin_alike.ensures refl)) in
    inductive c.args.first.now c.args.second.now kept c.args.reads.now c.in-Some.pair (if-some _ _ c.in-Some.pair c.in-Some.is c.in_ok-pair.ensures) c.known.ensures c.known-2.ensures c.known-3.ensures c.requires begin
    (c.in_ok-are_told_alike.ensures c.if-branch.true)
