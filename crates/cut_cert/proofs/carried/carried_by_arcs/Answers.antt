use Rattle.std.proofs.Common.{◌∙◌, ap₂, ℕ, ◌-◌, slice_index, arith}
use Rattle.frame_net.specs.FlowNet.{cap_at}
use Rattle.cut_cert.proofs.AppendLaws.{one_more}
use Rattle.cut_cert.proofs.carried.carried_by_arcs.Goals as goal

pub loop-arc-preserved : goal.loop-arc-preserved
loop-arc-preserved c = record {
  long = omega (arith, c.loop-arc.invariant.long, c.push_reserved.ensures.len);
  within = omega (arith, c.loop-arc-test.true);
  room = omega (arith, c.loop-arc.invariant.room, c.push_reserved.ensures.capacity);
  each = λ a h. one_more (λ (j : ℕ). cap_at c.args.net.now j - slice_index c.args.preflow.now.flow.cells.residuals j) c.loop-arc.carried.items c.push_reserved.new.self.items c.saturating_sub-flow.result c.loop-arc.arc
      c.push_reserved.ensures.items c.loop-arc.invariant.long (λ j l. c.loop-arc.invariant.each j (omega (arith, l, c.loop-arc.invariant.long)))
      (c.saturating_sub-flow.ensures ∙ ap₂ (λ (x y : ℕ). x - y) c.cap.ensures c.residual.ensures) a (omega (arith, h, c.loop-arc.invariant.long, c.push_reserved.ensures.len));
}
