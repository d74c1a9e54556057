use Rattle.std.proofs.Common.{sym, ◌∙◌}
use Rattle.frame_net.specs.FlowNet.{node_count}
use Rattle.pulse.specs.Conditions.{state_of}
use Rattle.pulse.proofs.RelabelLaws.{when_due, when_not_due, when_ended}
use Rattle.pulse.proofs.relabel.relabel_when_due.Goals.{else-count-nodes-eq0-via-then-count-nodes-eq0+else-is_active, else-count-nodes-eq0-via-else-count-nodes-eq0}
use Rattle.pulse.proofs.relabel.relabel_when_due.Goals as goal

pub returns-then-is_active-clause-after : goal.returns-then-is_active-clause-after
returns-then-is_active-clause-after c =
    when_due (node_count c.args.net.now) c.args.count c.from-nodes.result (state_of c.args.net.now c.args.flow.now) (state_of c.args.net.now c.relabel.new.flow) (c.from-nodes.ensures ∙ c.nodes.ensures)
    c.if-count-nodes-eq0.true (sym c.if-is_active.true ∙ c.is_active.ensures) c.relabel.ensures.exact

pub returns-else-count-nodes-eq0-clause-after : goal.returns-else-count-nodes-eq0-clause-after
returns-else-count-nodes-eq0-clause-after c = elim c.else-count-nodes-eq0.branch [
  | else-count-nodes-eq0-via-then-count-nodes-eq0+else-is_active w ↦
      when_ended (node_count c.args.net.now) c.args.count (state_of c.args.net.now c.args.flow.now) (sym w.if-is_active.false ∙ w.is_active.ensures)
  | else-count-nodes-eq0-via-else-count-nodes-eq0 w ↦
      when_not_due (node_count c.args.net.now) c.args.count c.from-nodes.result (state_of c.args.net.now c.args.flow.now) (c.from-nodes.ensures ∙ c.nodes.ensures) w.if-count-nodes-eq0.false
]
