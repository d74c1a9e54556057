use Rattle.std.proofs.Common.{arith, ◌≡◌}
use Rattle.aig_graph.specs.Graph.{first_gate}
use Rattle.aig_graph.proofs.BorderLaws.{counted-pass, counted-fail, counted-end}
use Rattle.reports.proofs.HeldBackLaws.{marked-start}
use Rattle.reports.proofs.held_back.count_marked.Goals.{then-is_marked_latch, else-is_marked_latch}
use Rattle.reports.proofs.held_back.count_marked.Goals as goal

pub loop-var-init : goal.loop-var-init
loop-var-init c = (omega arith, marked-start c.args.aig.now c.args.keep.now c.args.marks.now _ c.first_latch-var.ensures.value)

pub loop-var-preserved : goal.loop-var-preserved
loop-var-preserved c = elim c.if-is_marked_latch.branch [
  | then-is_marked_latch w ↦ (omega (arith, c.loop-var.invariant.0, w.total-is), counted-pass _ c.loop-var.var c.loop-var.total _ c.is_marked_latch.result c.is_marked_latch.ensures w.if-is_marked_latch.true c.loop-var.invariant.1 w.total-is)
  | else-is_marked_latch w ↦ (omega (arith, c.loop-var.invariant.0, w.total-is), counted-fail _ c.loop-var.var c.loop-var.total _ c.is_marked_latch.result c.is_marked_latch.ensures w.if-is_marked_latch.false c.loop-var.invariant.1 w.total-is)
]

pub returns : goal.returns
returns c =
    let ended : c.loop-var.var ≡ first_gate c.args.aig.now = omega (arith, c.loop-var-test.false, c.loop-var.auto, c.first_gate-var-end.ensures.value) in
    counted-end _ _ _ _ ended c.loop-var.invariant.1
