use Rattle.std.proofs.lemmas.Result.{IfOk-weaker}
use Rattle.aig_graph.specs.Gates.{gates_of}
use Rattle.unit_refutations.proofs.EqualLaws.{equal-refuted}
use Rattle.unit_refutations.proofs.propagating.Propagation.equal.Goals as goal

pub returns : goal.returns
returns c = IfOk-weaker c.refuted-2.result _ _ (λ equal second is.
    equal-refuted (gates_of c.args.aig.now) c.args.a c.args.b c.not-2.result c.not.result c.not-2.ensures.same_variable c.not-2.ensures.other_sign c.not.ensures.same_variable c.not.ensures.other_sign
    (c.in_ok-refuted.ensures c.if-not-branch.false) (second is)) c.refuted-2.ensures
