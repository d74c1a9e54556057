use Rattle.std.proofs.Common.{◌≡◌, ℕ, ◌+◌, arith, ap, sym, ◌∙◌}
use Rattle.frame_net.specs.FlowNet.{FlowNet, node_count}
use Rattle.pulse_parts.specs.Reading.{active_below, cells_active}
use Rattle.pulse_parts.proofs.WalkLaws.{active_few, active_flat, active_on}
use Rattle.pulse.specs.Values.{FlowState}
use Rattle.pulse.proofs.active.active_nodes.Goals as goal
use Rattle.pulse.proofs.active.active_nodes.Goals.{then-is_node_active, else-is_node_active}

pub overflow_add-count : goal.overflow_add-count
overflow_add-count c =
    omega (
      arith,
      c.loop-v.invariant,
      active_few c.args.net.now c.args.flow.now.labels c.args.flow.now.cells c.loop-v.v,
      c.loop-v-test.true,
      c.nodes-nodes.ensures,
      c.known.ensures.network.short,
    )

pub loop-v-preserved : goal.loop-v-preserved
loop-v-preserved c =
    let net : FlowNet = c.args.net.now in
    let f : FlowState = c.args.flow.now in
    elim c.if-is_node_active.branch [
      | then-is_node_active w ↦ w.count-is ∙ (ap (λ (n : ℕ). n + 1) c.loop-v.invariant ∙ sym (active_on net f.labels f.cells c.loop-v.v (sym c.is_node_active.ensures ∙ w.if-is_node_active.true)))
      | else-is_node_active w ↦ (
          let off : active_below net f.labels f.cells (c.loop-v.v + 1) ≡ active_below net f.labels f.cells c.loop-v.v = active_flat net f.labels f.cells c.loop-v.v (c.loop-v.v + 1) (omega arith) (λ u lo hi.
          let here : u ≡ c.loop-v.v = omega arith in
          ap (cells_active net f.labels f.cells) here ∙ (sym c.is_node_active.ensures ∙ w.if-is_node_active.false)) in
          w.count-is ∙ (c.loop-v.invariant ∙ sym off))
    ]

pub returns : goal.returns
returns c =
    let all : c.loop-v.v ≡ node_count c.args.net.now = omega (arith, c.nodes-nodes.ensures) in
    c.loop-v.invariant ∙ ap (λ (n : ℕ). active_below c.args.net.now c.args.flow.now.labels c.args.flow.now.cells n) all
