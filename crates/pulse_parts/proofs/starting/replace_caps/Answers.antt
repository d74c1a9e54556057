use Rattle.std.proofs.Common.{◌≡◌, ℕ, ◌+◌, ◌∙◌, arith, ap, refl, sym, subst, slice_index, length}
use Rattle.frame_net.specs.FlowNet.{cap_at}
use Rattle.pulse_parts.proofs.SourceArcLaws.{Holds, holds-none, holds-next, holds-all}
use Rattle.pulse_parts.proofs.starting.replace_caps.Goals as goal

pub loop-arc-init : goal.loop-arc-init
loop-arc-init c = record {
  long = refl;
  each = λ i h. holds-none c.args.net.now (slice_index c.args.residuals.now i) (c.args.base + i) (c.requires.caps i h);
}

pub loop-arc-preserved : goal.loop-arc-preserved
loop-arc-preserved c = record {
  long = c.put-in-loop-arc.ensures.len ∙ c.put.ensures.len ∙ c.loop-arc.invariant.long;
  each = λ i h.
      let long : length c.put-in-loop-arc.new.values ≡ length c.loop-arc.residuals = c.put-in-loop-arc.ensures.len ∙ c.put.ensures.len in
      holds-next c.args.net.now (slice_index c.loop-arc.residuals i) (slice_index c.put.new.values i) (slice_index c.put-in-loop-arc.new.values i) (c.args.base + i) c.loop-arc.arc
      c.known.ensures.network c.known_capacities.ensures.startable (omega (arith, c.loop-arc-test.true, c.row-row.ensures.end)) (c.loop-arc.invariant.each i (omega (arith, h, long)))
      (λ e. c.put.ensures.there i (omega (arith, h, long)) e)
      (λ ne. c.put.ensures.others i ne)
      (λ e. c.put-in-loop-arc.ensures.there i (omega (arith, h, c.put-in-loop-arc.ensures.len)) (e ∙ sym c.mate-mate.ensures)
      ∙ omega (arith, c.cap.ensures, c.cap-in-loop-arc.ensures, ap (λ (x : ℕ). cap_at c.args.net.now x) c.mate-mate.ensures))
      (λ ne. c.put-in-loop-arc.ensures.others i (λ q. ne (q ∙ c.mate-mate.ensures)));
}

pub returns-clause-each : goal.returns-clause-each
returns-clause-each c = λ i h.
    holds-all c.args.net.now (slice_index c.loop-arc.residuals i) (c.args.base + i) c.known.ensures.network
    (omega (arith, h, c.loop-arc.invariant.long, c.requires.within))
    (subst (λ (n : ℕ). Holds c.args.net.now (slice_index c.loop-arc.residuals i) (c.args.base + i) n) (omega (arith, c.loop-arc-test.false, c.loop-arc.auto.arc-end, c.row-row.ensures.end)) (c.loop-arc.invariant.each i h))
