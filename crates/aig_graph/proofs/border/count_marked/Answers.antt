use Rattle.std.proofs.Common.{arith, ◌≡◌}
use Rattle.aig_graph.specs.Graph.{variables_end}
use Rattle.aig_graph.proofs.BorderLaws.{counted-start, counted-pass, counted-fail, counted-end}
use Rattle.aig_graph.proofs.border.count_marked.Goals.{then-is_counted, else-is_counted}
use Rattle.aig_graph.proofs.border.count_marked.Goals as goal

pub loop-var-init : goal.loop-var-init
loop-var-init c = (omega arith, counted-start _ _ _ _ c.first_latch-var.ensures.value)

pub loop-var-preserved : goal.loop-var-preserved
loop-var-preserved c = elim c.if-is_counted.branch [
  | then-is_counted w ↦ (omega (arith, c.loop-var.invariant.0, w.total-is), counted-pass _ c.loop-var.var c.loop-var.total _ c.is_counted.result c.is_counted.ensures w.if-is_counted.true c.loop-var.invariant.1 w.total-is)
  | else-is_counted w ↦ (omega (arith, c.loop-var.invariant.0, w.total-is), counted-fail _ c.loop-var.var c.loop-var.total _ c.is_counted.result c.is_counted.ensures w.if-is_counted.false c.loop-var.invariant.1 w.total-is)
]

pub returns : goal.returns
returns c =
    let ended : c.loop-var.var ≡ variables_end c.args.aig.now = omega (arith, c.loop-var-test.false, c.loop-var.auto, c.variables-var-end.ensures.value) in
    counted-end _ _ _ _ ended c.loop-var.invariant.1
