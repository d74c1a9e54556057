use Rattle.std.proofs.Common.{◌≡◌, ℕ, arith, subst}
use Rattle.pulse_parts.proofs.delivering.deliver_part.Goals as goal
use Rattle.pulse_parts.specs.Parts.{values_of}
use Rattle.pulse_parts.proofs.DeliveredPartLaws.{Stepped, fits_after, part_clamped, same_end, same_first, step_clamped, step_more, step_none, step_safe}

pub loop-v-init : goal.loop-v-init
loop-v-init c = step_none c.args.net.now c.args.labels.now (values_of c.args.pushes.now) c.max-low.result c.args.part.now

pub deliver_at-requires-clause-part : goal.deliver_at-requires-clause-part
deliver_at-requires-clause-part c = fits_after c.args.net.now c.args.part.now c.loop-v.part c.loop-v.invariant.same c.loop-v.invariant.given.sizes c.requires.part

pub deliver_at-requires-clause-from : goal.deliver_at-requires-clause-from
deliver_at-requires-clause-from c = omega (arith, same_first c.args.part.now c.loop-v.part c.loop-v.invariant.same, c.max-low.ensures)

pub deliver_at-requires-clause-to : goal.deliver_at-requires-clause-to
deliver_at-requires-clause-to c = omega (arith, same_end c.args.part.now c.loop-v.part c.loop-v.invariant.same, c.min-high.ensures)

pub deliver_at-requires-clause-safe : goal.deliver_at-requires-clause-safe
deliver_at-requires-clause-safe c =
    step_safe c.args.net.now c.args.labels.now (values_of c.args.pushes.now) c.max-low.result c.min-high.result c.loop-v.v c.args.part.now c.loop-v.part (omega arith) (omega arith)
    (part_clamped c.args.net.now (values_of c.args.pushes.now) c.args.first c.args.end c.max-low.result c.min-high.result c.args.part.now c.max-low.ensures c.min-high.ensures c.requires.safe) c.loop-v.invariant

pub loop-v-preserved : goal.loop-v-preserved
loop-v-preserved c =
    step_more c.args.net.now c.args.labels.now (values_of c.args.pushes.now) c.max-low.result c.loop-v.v c.args.part.now c.loop-v.part c.deliver_at.new.part (omega arith) c.loop-v.invariant
    c.deliver_at.ensures.same c.deliver_at.ensures.delivered

pub returns-after-loop-v : goal.returns-after-loop-v
returns-after-loop-v c =
    let all : c.loop-v.v ≡ c.min-high.result = omega arith in
    step_clamped c.args.net.now c.args.labels.now (values_of c.args.pushes.now) c.args.first c.args.end c.max-low.result c.min-high.result c.args.part.now c.loop-v.part c.requires.part c.max-low.ensures c.min-high.ensures
    (subst (λ (x : ℕ). Stepped c.args.net.now c.args.labels.now (values_of c.args.pushes.now) c.max-low.result x c.args.part.now c.loop-v.part) all c.loop-v.invariant)
