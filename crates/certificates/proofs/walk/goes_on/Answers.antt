use Rattle.std.proofs.Common.{◌∙◌, sym, ap}
use Rattle.aig_graph.specs.Graph.{first_latch}
use Rattle.certificates.proofs.WalkLaws.{goes-step, goes-not, goes-end, step-on, step-is}
use Rattle.certificates.proofs.walk.goes_on.Goals as goal

pub returns-then-not-may_step : goal.returns-then-not-may_step
returns-then-not-may_step c =
    let steps = step-is c.args.circuit.now.aig c.aig-aig.result.now c.args.keep.now c.args.pass.now c.may_step.result c.loop-point.at _ c.aig-aig.ensures.value c.may_step.ensures c.requires.pass in
    sym (c.loop-point.invariant.same ∙ goes-not c.args.circuit.now c.args.keep.now c.loop-point.at c.args.rest.now c.loop-point.point-index _ c.loop-point-test.true (sym steps ∙ c.if-not-may_step.true))

pub loop-point-preserved : goal.loop-point-preserved
loop-point-preserved c =
    let steps = step-is c.args.circuit.now.aig c.aig-aig.result.now c.args.keep.now c.args.pass.now c.may_step.result c.loop-point.at _ c.aig-aig.ensures.value c.may_step.ensures c.requires.pass in
    record {
      on = step-on c.args.circuit.now.aig c.args.keep.now c.loop-point.at _ (sym steps ∙ c.if-not-may_step.false);
      same = c.loop-point.invariant.same ∙ goes-step c.args.circuit.now c.args.keep.now c.loop-point.at c.args.rest.now c.loop-point.point-index _ c.loop-point-test.true (sym steps ∙ c.if-not-may_step.false);
    }

pub returns : goal.returns
returns c =
    c.ends_at.ensures
    ∙ sym (c.loop-point.invariant.same ∙ goes-end c.args.circuit.now c.args.keep.now c.args.leaving.now c.loop-point.at c.args.rest.now c.loop-point.point-index c.first_latch.result
    c.loop-point-test.false c.requires.leaving c.loop-point.invariant.on (c.first_latch.ensures.value ∙ ap first_latch c.aig-aig.ensures.value))
