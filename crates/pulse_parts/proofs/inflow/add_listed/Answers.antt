use Rattle.std.proofs.Common.{◌≡◌, ◌+◌, ℕ, arith, ap, refl, length, subst, ◌∙◌}
use Rattle.pulse_parts.specs.Parts.{values_of}
use Rattle.pulse_parts.proofs.inflow.add_listed.Goals as goal
use Rattle.pulse_parts.proofs.ReceivedLaws.{Adds, adds_fit, adds_inflow, adds_more, adds_none, adds_part, adds_row}
use Rattle.pulse_parts.proofs.SenderLaws.{before, before_all, pusher_next, pusher_part, pusher_within, pushers, pushers_listed, pushers_rise}

pub loop-i-init : goal.loop-i-init
loop-i-init c =
    adds_none c.args.net.now (values_of c.args.parts.now) (pushers c.args.parts.now) c.args.v c.args.row.now c.known.ensures.network c.requires.v
    (pushers_listed c.args.net.now c.args.parts.now c.known.ensures.network c.requires.parts c.requires.listed)

pub receive-inflow-requires-clause-u : goal.receive-inflow-requires-clause-u
receive-inflow-requires-clause-u c =
    (pusher_within c.args.net.now c.args.parts.now c.loop-i.i c.index-parts-i.result c.as_slice-list.result.now c.requires.parts c.requires.listed (omega arith) c.index-parts-i.is c.as_slice-list.ensures.value c.loop-j.j (omega arith)).1

pub receive-inflow-requires-clause-fits : goal.receive-inflow-requires-clause-fits
receive-inflow-requires-clause-fits c =
    let at = pusher_next c.args.parts.now c.loop-i.i c.loop-j.j _ c.index-parts-i.result c.as_slice-list.result.now (omega arith) c.index-parts-i.is c.as_slice-list.ensures.value (omega arith) refl in
    adds_fit c.args.net.now (values_of c.args.parts.now) (pushers c.args.parts.now) c.args.v (before c.args.parts.now c.loop-i.i + c.loop-j.j) _ c.args.row.now c.loop-j.row c.loop-j.inflow at.0 at.1 c.loop-j.invariant c.requires.fits

pub overflow_add-inflow : goal.overflow_add-inflow
overflow_add-inflow c =
    let at = pusher_next c.args.parts.now c.loop-i.i c.loop-j.j _ c.index-parts-i.result c.as_slice-list.result.now (omega arith) c.index-parts-i.is c.as_slice-list.ensures.value (omega arith) refl in
    omega (
      arith,
      c.requires.sum,
      adds_part c.args.net.now (values_of c.args.parts.now) (pushers c.args.parts.now) c.args.v (before c.args.parts.now c.loop-i.i + c.loop-j.j + 1) c.args.row.now c.receive-inflow.new.row (c.loop-j.inflow + c.receive-inflow.result)
          (adds_more c.args.net.now (values_of c.args.parts.now) (pushers c.args.parts.now) c.args.v (before c.args.parts.now c.loop-i.i + c.loop-j.j) _ c.args.row.now c.loop-j.row c.receive-inflow.new.row c.loop-j.inflow c.receive-inflow.result c.known.ensures.network c.requires.v
          (pushers_rise c.args.net.now c.args.parts.now c.requires.parts c.requires.listed) at.0 at.1 c.receive-inflow.ensures c.loop-j.invariant),
    )

pub loop-j-preserved : goal.loop-j-preserved
loop-j-preserved c =
    let at = pusher_next c.args.parts.now c.loop-i.i c.loop-j.j _ c.index-parts-i.result c.as_slice-list.result.now (omega arith) c.index-parts-i.is c.as_slice-list.ensures.value (omega arith) refl in
    subst (λ (m : ℕ). Adds c.args.net.now (values_of c.args.parts.now) (pushers c.args.parts.now) c.args.v m c.args.row.now c.receive-inflow.new.row (c.loop-j.inflow + c.receive-inflow.result))
    (let e : before c.args.parts.now c.loop-i.i + c.loop-j.j + 1 ≡ before c.args.parts.now c.loop-i.i + (c.loop-j.j + 1) = omega arith in e)
    (adds_more c.args.net.now (values_of c.args.parts.now) (pushers c.args.parts.now) c.args.v (before c.args.parts.now c.loop-i.i + c.loop-j.j) _ c.args.row.now c.loop-j.row c.receive-inflow.new.row c.loop-j.inflow c.receive-inflow.result c.known.ensures.network c.requires.v
    (pushers_rise c.args.net.now c.args.parts.now c.requires.parts c.requires.listed) at.0 at.1 c.receive-inflow.ensures c.loop-j.invariant)

pub loop-i-preserved : goal.loop-i-preserved
loop-i-preserved c =
    let all : c.loop-j.j ≡ length c.as_slice-list.result.now = omega arith in
    subst (λ (m : ℕ). Adds c.args.net.now (values_of c.args.parts.now) (pushers c.args.parts.now) c.args.v m c.args.row.now c.loop-j.row c.loop-j.inflow)
    (ap (λ (k : ℕ). before c.args.parts.now c.loop-i.i + k) all ∙ pusher_part c.args.parts.now c.loop-i.i c.index-parts-i.result c.as_slice-list.result.now (omega arith) c.index-parts-i.is c.as_slice-list.ensures.value)
    c.loop-j.invariant

pub returns-clause-inflow : goal.returns-clause-inflow
returns-clause-inflow c =
    let all : c.loop-i.i ≡ length c.args.parts.now = omega arith in
    adds_inflow c.args.net.now (values_of c.args.parts.now) (pushers c.args.parts.now) c.args.v (before c.args.parts.now c.loop-i.i) c.args.row.now c.loop-i.row c.loop-i.inflow (ap (before c.args.parts.now) all ∙ before_all c.args.parts.now) c.loop-i.invariant

pub returns-clause-row : goal.returns-clause-row
returns-clause-row c =
    let all : c.loop-i.i ≡ length c.args.parts.now = omega arith in
    adds_row c.args.net.now (values_of c.args.parts.now) (pushers c.args.parts.now) c.args.v (before c.args.parts.now c.loop-i.i) c.args.row.now c.loop-i.row c.loop-i.inflow (ap (before c.args.parts.now) all ∙ before_all c.args.parts.now) c.loop-i.invariant
