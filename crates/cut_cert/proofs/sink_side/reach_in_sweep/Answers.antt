use Rattle.std.proofs.Common.{◌≡◌, ◌∙◌, sym, subst, OnOk}
use Rattle.cut_cert.specs.Fronts.{SearchFront, reach_node}
use Rattle.cut_cert.specs.SinkWalk.{reach_node_in_sweep}
use Rattle.cut_cert.proofs.SinkWalkLaws.{sweep-mark, sweep-outer, sweep-past}
use Rattle.cut_cert.proofs.sink_side.reach_in_sweep.Goals as goal
use Rattle.cut_cert.proofs.sink_side.reach_in_sweep.Goals.{else-node-gt1-via-then-node-gt1+else-node-swept, else-node-gt1-via-else-node-gt1}

pub mark-requires : goal.mark-requires
mark-requires c = c.requires

pub returns-then-node-swept : goal.returns-then-node-swept
returns-then-node-swept c = c.mark.ensures ∙ sym (sweep-mark c.args.swept c.args.side.now c.args.node c.if-node-gt1.true c.if-node-swept.true)

pub reach-requires : goal.reach-requires
reach-requires c = c.requires

pub returns : goal.returns
returns c =
    let reached : reach_node_in_sweep c.args.swept c.args.side.now c.args.node ≡ reach_node c.args.side.now c.args.node = elim c.else-node-gt1.branch [
      | else-node-gt1-via-then-node-gt1+else-node-swept w ↦ sweep-past c.args.swept c.args.side.now c.args.node w.if-node-gt1.true w.if-node-swept.false
      | else-node-gt1-via-else-node-gt1 w ↦ sweep-outer c.args.swept c.args.side.now c.args.node w.if-node-gt1.false
    ] in
    subst (λ (r : SearchFront). OnOk c.reach.result (c.reach.new.self ≡ r)) (sym reached) c.reach.ensures
