use Rattle.std.proofs.Common.{ℕ, List, arith, ap, length, refl, subst, sym, ◌∙◌}
use Rattle.std.specs.Vec.{with_items}
use Rattle.std.proofs.lemmas.Bool.{false≢true}
use Rattle.std.proofs.lemmas.List.{with_items_is}
use Rattle.pulse_parts.specs.Listing.{ListActive}
use Rattle.pulse.specs.Values.{FlowState, PushState}
use Rattle.pulse.proofs.phases.deliver_by.Goals as goal
use Rattle.pulse.proofs.CrewLaws.{lists_seen}
use Rattle.pulse.proofs.FlowLaws.{parts_of}
use Rattle.pulse.proofs.PhaseLaws.{left_refused, phase_read, phase_delivered, phase_refused}

pub deliver_all-requires-clause-flow : goal.deliver_all-requires-clause-flow
deliver_all-requires-clause-flow g c κs within = parts_of c.args.net.now c.args.flow.now c.flow.inside.parts.items c.flow.inside.labels.items c.flow.inside.delivered.items c.flow.inside.caps c.flow.inside.spent c.flow.view_is c.if-flow.false c.requires.flow

pub deliver_all-requires-clause-read : goal.deliver_all-requires-clause-read
deliver_all-requires-clause-read g c κs within =
    phase_read c.args.net.now c.args.flow.now c.args.pushes.now c.flow.inside.parts.items c.flow.inside.labels.items c.as_mut_slice-labels.result.now c.flow.inside.delivered.items c.flow.inside.caps c.flow.inside.spent
    c.pushes.inside.parts.items c.as_slice-rows.result.now c.pushes.inside.spent c.flow.view_is c.pushes.view_is c.as_mut_slice-labels.ensures.value c.as_slice-rows.ensures.value c.if-pushes.false c.requires.pushes
    (c.requires.read (sym (ap (λ (f : FlowState). f.spent) c.flow.view_is) ∙ c.if-flow.false) (sym (ap (λ (p : PushState). p.spent) c.pushes.view_is) ∙ c.if-pushes.false))

pub deliver_all-requires-clause-lists : goal.deliver_all-requires-clause-lists
deliver_all-requires-clause-lists g c κs within on =
    lists_seen c.args.net.now c.flow.inside.labels.items c.as_mut_slice-labels.result.now c.flow.inside.parts.items c.flow.inside.parts.items
    (ap (λ (f : FlowState). length f.labels) c.flow.view_is ∙ c.requires.flow.labelled.each) c.as_mut_slice-labels.ensures.value refl (c.flow.invariant.lists on)

pub returns-in-Ok-clause-fits : goal.returns-in-Ok-clause-fits
returns-in-Ok-clause-fits g c =
    (phase_delivered c.args.net.now c.args.flow.now c.args.pushes.now c.flow.inside.parts.items c.deliver_all.new.flow.items c.flow.inside.labels.items c.as_mut_slice-labels.result.now c.deliver_all.new.labels (with_items c.flow.inside.labels c.deliver_all.new.labels).items
    c.flow.inside.delivered.items c.flow.inside.caps c.flow.inside.spent c.pushes.inside.parts.items c.pushes.inside.spent c.known.ensures.network c.flow.view_is c.pushes.view_is c.if-flow.false c.if-pushes.false
    (c.requires.read (sym (ap (λ (f : FlowState). f.spent) c.flow.view_is) ∙ c.if-flow.false) (sym (ap (λ (p : PushState). p.spent) c.pushes.view_is) ∙ c.if-pushes.false))
    c.as_mut_slice-labels.ensures.value (with_items_is c.flow.inside.labels c.deliver_all.new.labels (omega arith)) c.in-Ok.ensures.ok).pulse.between.fits

pub returns-in-Ok-clause-ok : goal.returns-in-Ok-clause-ok
returns-in-Ok-clause-ok g c =
    phase_delivered c.args.net.now c.args.flow.now c.args.pushes.now c.flow.inside.parts.items c.deliver_all.new.flow.items c.flow.inside.labels.items c.as_mut_slice-labels.result.now c.deliver_all.new.labels (with_items c.flow.inside.labels c.deliver_all.new.labels).items
    c.flow.inside.delivered.items c.flow.inside.caps c.flow.inside.spent c.pushes.inside.parts.items c.pushes.inside.spent c.known.ensures.network c.flow.view_is c.pushes.view_is c.if-flow.false c.if-pushes.false
    (c.requires.read (sym (ap (λ (f : FlowState). f.spent) c.flow.view_is) ∙ c.if-flow.false) (sym (ap (λ (p : PushState). p.spent) c.pushes.view_is) ∙ c.if-pushes.false))
    c.as_mut_slice-labels.ensures.value (with_items_is c.flow.inside.labels c.deliver_all.new.labels (omega arith)) c.in-Ok.ensures.ok

pub returns-in-Err-clause-fits : goal.returns-in-Err-clause-fits
returns-in-Err-clause-fits g c =
    phase_refused c.args.net.now c.args.flow.now c.flow.inside.parts.items c.deliver_all.new.flow.items c.flow.inside.labels.items (with_items c.flow.inside.labels c.deliver_all.new.labels).items c.flow.inside.delivered.items c.flow.inside.caps
    c.flow.inside.spent c.flow.view_is (with_items_is c.flow.inside.labels c.deliver_all.new.labels (omega arith) ∙ (c.in-Err.ensures.err ∙ c.as_mut_slice-labels.ensures.value)) c.requires.flow

pub returns-in-Err-clause-err : goal.returns-in-Err-clause-err
returns-in-Err-clause-err g c =
    left_refused c.args.flow.now c.flow.inside.parts.items c.deliver_all.new.flow.items c.flow.inside.labels.items (with_items c.flow.inside.labels c.deliver_all.new.labels).items c.flow.inside.delivered.items c.flow.inside.caps
    c.flow.inside.spent c.flow.view_is (with_items_is c.flow.inside.labels c.deliver_all.new.labels (omega arith) ∙ (c.in-Err.ensures.err ∙ c.as_mut_slice-labels.ensures.value))

pub invariant_of-flow-in-Ok : goal.invariant_of-flow-in-Ok
invariant_of-flow-in-Ok g c = record {
  lists = λ on. subst (λ (x : List ℕ). ListActive (length x) x c.deliver_all.new.flow.items) (sym (with_items_is c.flow.inside.labels c.deliver_all.new.labels (omega arith))) c.in-Ok.ensures.lists;
  numbered = λ free. c.in-Ok.ensures.numbered (c.flow.invariant.numbered free);
}

pub invariant_of-flow : goal.invariant_of-flow
invariant_of-flow g c = record { lists = λ on. c.flow.invariant.lists on; numbered = λ free. absurd (false≢true (sym free)) }

pub invariant_of-flow-in-Err : goal.invariant_of-flow-in-Err
invariant_of-flow-in-Err g c = record { lists = λ on. absurd (false≢true on); numbered = λ free. absurd (false≢true (sym free)) }
