use Rattle.std.proofs.Common.{◌+◌, ◌∙◌, arith, ap, length, subst, sym, drop}
use Rattle.frame_net.specs.FlowNet.{node_count}
use Rattle.pulse_parts.specs.Parts.{FlowPartFits}
use Rattle.pulse_parts.proofs.JoinedPartLaws.{by_node, excess_piece}
use Rattle.pulse_parts.proofs.CopyLaws.{Copied, copied_next, copied_none, copied_off, copied_slice, part_here}
use Rattle.pulse_parts.proofs.copying.copied_excess.Goals as goal
use Rattle.pulse_parts.proofs.copying.copied_excess.Goals.{then-low-high+in_ok-add, else-low-high}

pub add-requires-clause-within : goal.add-requires-clause-within
add-requires-clause-within c =
    let fit = part_here c.args.net.now c.args.flow.now c.loop-i.i c.index-flow-i.result (omega arith) c.index-flow-i.is c.requires.flow in
    omega (arith, fit.nodes, c.min-high.ensures, ap length c.as_slice.ensures.value)

pub loop-i-init : goal.loop-i-init
loop-i-init c =
    copied_none (FlowPartFits c.args.net.now) (λ p. p.first) (λ p. p.end) (λ p. p.excess.items) (λ v. v) (node_count c.args.net.now) c.args.first c.args.end c.args.flow.now _
    (by_node (node_count c.args.net.now)) c.in_ok-excess.ensures.items c.requires.flow

pub loop-i-preserved : goal.loop-i-preserved
loop-i-preserved c =
    let next = copied_next (FlowPartFits c.args.net.now) (λ p. p.first) (λ p. p.end) (λ p. p.excess.items) (λ v. v) (node_count c.args.net.now) c.args.first c.args.end c.args.flow.now c.loop-i.i
    c.index-flow-i.result c.loop-i.excess.items (omega arith) c.index-flow-i.is c.loop-i.invariant in
    elim c.if-low-high.branch [
      | then-low-high+in_ok-add w ↦
          copied_slice (FlowPartFits c.args.net.now) (λ p. p.first) (λ p. p.end) (λ p. p.excess.items) (λ v. v) (node_count c.args.net.now) c.args.first c.args.end c.args.flow.now
          c.index-flow-i.result (drop (c.loop-i.i + 1) c.args.flow.now) c.max-low.result c.min-high.result _ _ c.loop-i.excess.items c.if-low-high.excess.items _ (by_node (node_count c.args.net.now)) (excess_piece c.args.net.now)
          c.max-low.ensures c.min-high.ensures w.if-low-high.true (omega arith) (omega arith) w.as_slice.ensures.value
          (ap (λ v. v.items) w.excess-is ∙ w.in_ok-add.ensures) next
      | else-low-high w ↦
          subst (λ v. Copied (FlowPartFits c.args.net.now) (λ p. p.first) (λ p. p.end) (λ p. p.excess.items) (λ v. v) (node_count c.args.net.now) c.args.first c.args.end c.args.flow.now (drop (c.loop-i.i + 1) c.args.flow.now) v)
          (ap (λ v. v.items) (sym w.excess-is))
          (copied_off (FlowPartFits c.args.net.now) (λ p. p.first) (λ p. p.end) (λ p. p.excess.items) (λ v. v) (node_count c.args.net.now) c.args.first c.args.end c.args.flow.now
          c.index-flow-i.result (drop (c.loop-i.i + 1) c.args.flow.now) c.max-low.result c.min-high.result c.loop-i.excess.items (by_node (node_count c.args.net.now)) (excess_piece c.args.net.now)
          c.requires.ordered c.max-low.ensures c.min-high.ensures (omega (arith, w.if-low-high.false)) next)
    ]
