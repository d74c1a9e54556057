use Rattle.std.proofs.Common.{◌≡◌, ℕ, List, ap, ◌∙◌, length, subst}
use Rattle.frame_net.specs.FlowNet.{node_count}
use Rattle.pulse_parts.specs.declared.parts.FlowPart.{FlowPart}
use Rattle.pulse_parts.specs.Parts.{cells_of, pairs}
use Rattle.pulse_parts.specs.Runs.{any_active}
use Rattle.pulse.specs.Values.{FlowState}
use Rattle.pulse.specs.Conditions.{state_of}
use Rattle.pulse.proofs.active.is_active.Goals as goal
use Rattle.pulse.proofs.CrewLaws.{lists_seen}
use Rattle.pulse.proofs.FlowLaws.{flow_unspent, parts_seen}

pub any_active_node-requires-clause-parts : goal.any_active_node-requires-clause-parts
any_active_node-requires-clause-parts c =
    parts_seen c.args.net.now c.args.flow.now c.flow.inside.parts.items c.as_slice-2.result.now c.flow.inside.labels.items c.flow.inside.delivered.items c.flow.inside.caps c.flow.inside.spent c.flow.view_is
    c.as_slice-2.ensures.value (flow_unspent c.args.flow.now c.flow.inside.parts.items c.flow.inside.labels.items c.flow.inside.delivered.items c.flow.inside.caps c.flow.inside.spent c.flow.view_is c.requires.unspent) c.requires.flow

pub any_active_node-requires-clause-lists : goal.any_active_node-requires-clause-lists
any_active_node-requires-clause-lists c on =
    lists_seen c.args.net.now c.flow.inside.labels.items c.as_slice.result.now c.flow.inside.parts.items c.as_slice-2.result.now
    (ap (λ (f : FlowState). length f.labels) c.flow.view_is ∙ c.requires.flow.labelled.each) c.as_slice.ensures.value c.as_slice-2.ensures.value (c.flow.invariant.lists on)

pub returns : goal.returns
returns c =
    subst (λ (f : FlowState). c.any_active_node.result ≡ any_active (node_count c.args.net.now) (state_of c.args.net.now f)) c.flow.view_is
    (subst (λ (x : List ℕ). c.any_active_node.result ≡ any_active (node_count c.args.net.now) (pairs c.args.net.now (cells_of c.flow.inside.parts.items) x)) c.as_slice.ensures.value
    (subst (λ (x : List FlowPart). c.any_active_node.result ≡ any_active (node_count c.args.net.now) (pairs c.args.net.now (cells_of x) c.as_slice.result.now)) c.as_slice-2.ensures.value c.any_active_node.ensures))
