use Rattle.std.proofs.Common.{◌∙◌, Bool, List, ap}
use Rattle.aig_graph.specs.Marking.{mark_at}
use Rattle.aig_graph.specs.Counting.{places}
use Rattle.aig_graph.specs.Graph.{first_latch, variables_end}
use Rattle.aig_graph.specs.Border.{IsGreatestLeast}
use Rattle.unit_flows.specs.Shown.{is_off}
use Rattle.unit_flows.proofs.OffLaws.{off-members}
use Rattle.unit_flows.proofs.ShownLaws.{shown-law, if_some}
use Rattle.unit_flows.proofs.judging.shown_by_marks.Goals as goal

pub returns : goal.returns
returns c = if_some c.new.result _ _ (λ set. IsGreatestLeast c.args.frame.now.circuit.now c.args.frame.now.keep.now set) c.new.ensures (λ rising.
    shown-law c.args.frame.now.circuit.now c.args.frame.now.keep.now c.args.flows.now c.args.marks.now.before.items c.args.marks.now.after.items c.in_ok-vars.vars.items
    c.aig.ensures.graph
    (c.in_ok-is_shown.ensures c.if-not-is_shown.false) c.requires.reach rising
    (λ v. off-members c.args.frame.now.circuit.now c.args.frame.now.keep.now (mark_at (first_latch c.args.frame.now.circuit.now.aig) c.args.marks.now.before.items) c.in_ok-vars.vars.items v
    (c.in_ok-vars.ensures ∙ ap (λ (xs : List Bool). places (is_off c.args.frame.now.circuit.now c.args.frame.now.keep.now (mark_at (first_latch c.args.frame.now.circuit.now.aig) xs)) (variables_end c.args.frame.now.circuit.now.aig)) c.as_slice.ensures.value)))
