use Rattle.std.proofs.lemmas.Result.{IfOk-weaker}
use Rattle.aig_graph.specs.Gates.{gates_of}
use Rattle.unit_refutations.proofs.EqualLaws.{equal-refuted}
use Rattle.unit_refutations.proofs.probing.equal_by_probing.Goals as goal

pub returns : goal.returns
returns c = IfOk-weaker c.refuted_by_probing-2.result _ _ (λ equal second is.
    equal-refuted (gates_of c.args.aig.now) c.args.a c.args.b c.not-2.result c.not.result c.not-2.ensures.same_variable c.not-2.ensures.other_sign c.not.ensures.same_variable c.not.ensures.other_sign
    (c.in_ok-refuted_by_probing.ensures c.if-not-branch.false) (second is)) c.refuted_by_probing-2.ensures
