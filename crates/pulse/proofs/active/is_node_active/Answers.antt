use Rattle.std.proofs.Common.{ℕ, slice_index, arith, ap, ◌∙◌}
use Rattle.frame_net.specs.FlowNet.{FlowNet, node_count}
use Rattle.pulse_parts.specs.Listing.{active_by}
use Rattle.pulse.specs.Values.{FlowState}
use Rattle.pulse.proofs.active.is_node_active.Goals as goal

pub excess-requires : goal.excess-requires
excess-requires c = omega (arith, (c.requires.flow.sized c.requires.unspent).excess, c.requires.node)

pub label-requires : goal.label-requires
label-requires c = omega (arith, c.requires.flow.labelled.each, c.requires.node)

pub returns : goal.returns
returns c =
    let net : FlowNet = c.args.net.now in
    let f : FlowState = c.args.flow.now in
    c.is_active.ensures
    ∙ ap (λ (n : ℕ). active_by n c.args.v c.excess.result c.label.result) c.nodes-nodes.ensures
    ∙ ap (λ (e : ℕ). active_by (node_count net) c.args.v e c.label.result) c.excess.ensures
    ∙ ap (λ (l : ℕ). active_by (node_count net) c.args.v (slice_index f.cells.excess c.args.v) l) c.label.ensures
