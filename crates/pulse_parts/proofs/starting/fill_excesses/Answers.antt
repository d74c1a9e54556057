use Rattle.std.proofs.Common.{ℕ, ◌+◌, ◌∙◌, arith, refl, sym, subst, slice_index}
use Rattle.pulse_parts.proofs.SourceArcLaws.{Filled, filled-none, filled-next, filled-all}
use Rattle.pulse_parts.proofs.starting.fill_excesses.Goals as goal

pub loop-arc-init : goal.loop-arc-init
loop-arc-init c = record {
  long = refl;
  each = λ i h. filled-none c.args.net.now (slice_index c.args.excess.now i) (c.args.first + i) (c.requires.none i h);
}

pub loop-arc-preserved : goal.loop-arc-preserved
loop-arc-preserved c = record {
  long = c.put.ensures.len ∙ c.loop-arc.invariant.long;
  each = λ i h.
      filled-next c.args.net.now (slice_index c.loop-arc.excess i) (slice_index c.put.new.values i) (c.args.first + i) c.loop-arc.arc
      c.known.ensures.network c.known_capacities.ensures.startable (omega (arith, c.loop-arc-test.true, c.row-row.ensures.end))
      (c.loop-arc.invariant.each i (omega (arith, h, c.put.ensures.len)))
      (λ e. c.put.ensures.there i (omega (arith, h, c.put.ensures.len)) (e ∙ sym c.head-head.ensures) ∙ c.cap-cap.ensures)
      (λ ne. c.put.ensures.others i (λ q. ne (q ∙ c.head-head.ensures)));
}

pub returns-clause-each : goal.returns-clause-each
returns-clause-each c = λ i h.
    filled-all c.args.net.now (slice_index c.loop-arc.excess i) (c.args.first + i) c.known.ensures.network
    (omega (arith, h, c.loop-arc.invariant.long, c.requires.within))
    (subst (λ (n : ℕ). Filled c.args.net.now (slice_index c.loop-arc.excess i) (c.args.first + i) n) (omega (arith, c.loop-arc-test.false, c.loop-arc.auto.arc-end, c.row-row.ensures.end)) (c.loop-arc.invariant.each i h))
