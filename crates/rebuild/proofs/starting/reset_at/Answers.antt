use Rattle.std.proofs.Common.{◌∙◌, ap, sym, arith, not}
use Rattle.std.proofs.lemmas.Bool.{and_right}
use Rattle.aig_graph.specs.Closed.{is_held}
use Rattle.aig_graph.specs.Graph.{is_known, latch_at}
use Rattle.rebuild.proofs.StartLaws.{start_reset-latch, start_reset-unmoved}
use Rattle.rebuild.proofs.starting.reset_at.Goals as goal

pub returns-in-Some : goal.returns-in-Some
returns-in-Some c =
    sym (start_reset-latch c.args.aig.now c.args.keep.now c.first_gate.ensures.graph c.args.var c.in-Some.latch (sym c.latch.ensures ∙ c.in-Some.is) (sym c.may_move.ensures ∙ c.if-may_move.true))

pub returns-in_default : goal.returns-in_default
returns-in_default c =
    sym (start_reset-unmoved c.args.aig.now c.args.keep.now c.args.var (omega (arith, c.first_gate.ensures.value, c.if-first_gate-var.false)) (sym c.may_move.ensures ∙ c.if-may_move.false))

pub returns-in_default-2 : goal.returns-in_default-2
returns-in_default-2 c =
    let g = c.args.aig.now in
    sym (start_reset-unmoved g c.args.keep.now c.args.var (omega (arith, c.first_gate.ensures.value, c.if-first_gate-var.false))
    (and_right (not (is_held g c.args.keep.now c.args.var)) (is_known (latch_at g c.args.var)) (ap is_known (sym c.latch.ensures ∙ c.in_default.is))))
