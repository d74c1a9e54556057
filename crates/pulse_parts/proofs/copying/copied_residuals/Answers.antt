use Rattle.std.proofs.Common.{◌+◌, ◌∙◌, arith, ap, length, subst, sym, drop}
use Rattle.frame_net.specs.FlowNet.{node_count, start}
use Rattle.pulse_parts.specs.Parts.{FlowPartFits}
use Rattle.pulse_parts.proofs.PushPartLaws.{rising}
use Rattle.pulse_parts.proofs.JoinedPartLaws.{res_piece}
use Rattle.pulse_parts.proofs.CopyLaws.{Copied, copied_next, copied_none, copied_off, copied_slice, part_here, rows_here}
use Rattle.pulse_parts.proofs.copying.copied_residuals.Goals as goal
use Rattle.pulse_parts.proofs.copying.copied_residuals.Goals.{then-low-high+in_ok-add, else-low-high}

pub overflow_sub-from : goal.overflow_sub-from
overflow_sub-from c =
    let fit = part_here c.args.net.now c.args.flow.now c.loop-i.i c.index-flow-i.result (omega arith) c.index-flow-i.is c.requires.flow in
    let r = rows_here c.args.net.now c.args.flow.now c.loop-i.i c.index-flow-i.result c.args.first c.args.end c.max-low.result c.min-high.result
    c.known.ensures.network (omega arith) c.index-flow-i.is c.requires.flow c.max-low.ensures c.min-high.ensures c.if-low-high.true in
    omega (arith, r.after, fit.based, c.start-then-low-high.ensures)

pub overflow_sub-to : goal.overflow_sub-to
overflow_sub-to c =
    let fit = part_here c.args.net.now c.args.flow.now c.loop-i.i c.index-flow-i.result (omega arith) c.index-flow-i.is c.requires.flow in
    let r = rows_here c.args.net.now c.args.flow.now c.loop-i.i c.index-flow-i.result c.args.first c.args.end c.max-low.result c.min-high.result
    c.known.ensures.network (omega arith) c.index-flow-i.is c.requires.flow c.max-low.ensures c.min-high.ensures c.if-low-high.true in
    omega (arith, r.after, r.ordered, fit.based, c.start-then-low-high-2.ensures)

pub add-requires-clause-ordered : goal.add-requires-clause-ordered
add-requires-clause-ordered c =
    let fit = part_here c.args.net.now c.args.flow.now c.loop-i.i c.index-flow-i.result (omega arith) c.index-flow-i.is c.requires.flow in
    let r = rows_here c.args.net.now c.args.flow.now c.loop-i.i c.index-flow-i.result c.args.first c.args.end c.max-low.result c.min-high.result
    c.known.ensures.network (omega arith) c.index-flow-i.is c.requires.flow c.max-low.ensures c.min-high.ensures c.if-low-high.true in
    omega (arith, r.after, r.ordered, fit.based, c.start-then-low-high.ensures, c.start-then-low-high-2.ensures)

pub add-requires-clause-within : goal.add-requires-clause-within
add-requires-clause-within c =
    let fit = part_here c.args.net.now c.args.flow.now c.loop-i.i c.index-flow-i.result (omega arith) c.index-flow-i.is c.requires.flow in
    let r = rows_here c.args.net.now c.args.flow.now c.loop-i.i c.index-flow-i.result c.args.first c.args.end c.max-low.result c.min-high.result
    c.known.ensures.network (omega arith) c.index-flow-i.is c.requires.flow c.max-low.ensures c.min-high.ensures c.if-low-high.true in
    omega (arith, r.after, r.ordered, r.before, fit.based, c.start-then-low-high.ensures, c.start-then-low-high-2.ensures, ap length c.as_slice.ensures.value)

pub loop-i-init : goal.loop-i-init
loop-i-init c =
    copied_none (FlowPartFits c.args.net.now) (λ p. p.first) (λ p. p.end) (λ p. p.residuals.items) (start c.args.net.now) (node_count c.args.net.now) c.args.first c.args.end c.args.flow.now _
    (rising c.args.net.now c.known.ensures.network) c.in_ok-residuals.ensures.items c.requires.flow

pub loop-i-preserved : goal.loop-i-preserved
loop-i-preserved c =
    let fit = part_here c.args.net.now c.args.flow.now c.loop-i.i c.index-flow-i.result (omega arith) c.index-flow-i.is c.requires.flow in
    let next = copied_next (FlowPartFits c.args.net.now) (λ p. p.first) (λ p. p.end) (λ p. p.residuals.items) (start c.args.net.now) (node_count c.args.net.now) c.args.first c.args.end c.args.flow.now c.loop-i.i
    c.index-flow-i.result c.loop-i.residuals.items (omega arith) c.index-flow-i.is c.loop-i.invariant in
    elim c.if-low-high.branch [
      | then-low-high+in_ok-add w ↦
          copied_slice (FlowPartFits c.args.net.now) (λ p. p.first) (λ p. p.end) (λ p. p.residuals.items) (start c.args.net.now) (node_count c.args.net.now) c.args.first c.args.end c.args.flow.now
          c.index-flow-i.result (drop (c.loop-i.i + 1) c.args.flow.now) c.max-low.result c.min-high.result _ _ c.loop-i.residuals.items c.if-low-high.residuals.items _ (rising c.args.net.now c.known.ensures.network) (res_piece c.args.net.now)
          c.max-low.ensures c.min-high.ensures w.if-low-high.true (omega (arith, fit.based, w.start-then-low-high.ensures)) (omega (arith, fit.based, w.start-then-low-high-2.ensures)) w.as_slice.ensures.value
          (ap (λ v. v.items) w.residuals-is ∙ w.in_ok-add.ensures) next
      | else-low-high w ↦
          subst (λ v. Copied (FlowPartFits c.args.net.now) (λ p. p.first) (λ p. p.end) (λ p. p.residuals.items) (start c.args.net.now) (node_count c.args.net.now) c.args.first c.args.end c.args.flow.now (drop (c.loop-i.i + 1) c.args.flow.now) v)
          (ap (λ v. v.items) (sym w.residuals-is))
          (copied_off (FlowPartFits c.args.net.now) (λ p. p.first) (λ p. p.end) (λ p. p.residuals.items) (start c.args.net.now) (node_count c.args.net.now) c.args.first c.args.end c.args.flow.now
          c.index-flow-i.result (drop (c.loop-i.i + 1) c.args.flow.now) c.max-low.result c.min-high.result c.loop-i.residuals.items (rising c.args.net.now c.known.ensures.network) (res_piece c.args.net.now)
          c.requires.ordered c.max-low.ensures c.min-high.ensures (omega (arith, w.if-low-high.false)) next)
    ]
