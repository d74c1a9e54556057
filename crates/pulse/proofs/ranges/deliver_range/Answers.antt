use Rattle.std.proofs.Common.{List, arith, sym, subst}
use Rattle.std.specs.Vec.{with_items}
use Rattle.std.proofs.lemmas.Bool.{false≢true}
use Rattle.std.proofs.lemmas.List.{with_items_is}
use Rattle.pulse_parts.specs.declared.parts.FlowPart.{FlowPart}
use Rattle.pulse_parts.specs.Parts.{values_of}
use Rattle.pulse_parts.specs.Marks.{NoneMarked, IsPartlyDelivered}
use Rattle.pulse_parts.specs.Start.{FlowNumbered}
use Rattle.pulse_parts.proofs.NumberLaws.{numbered_given}
use Rattle.pulse.specs.Values.{FlowState, PushState, flow_state, push_state}
use Rattle.pulse.specs.Conditions.{IsFlowOf, is_marked}
use Rattle.pulse.specs.Phases.{RangeDelivered}
use Rattle.pulse.proofs.ranges.deliver_range.Goals as goal
use Rattle.pulse.proofs.FlowLaws.{flow_unspent, parts_of, parts_seen, pushes_unspent, rows_seen}
use Rattle.pulse.proofs.EventLaws.{range_safe, range_delivered}

pub deliver_each-requires-clause-pushes : goal.deliver_each-requires-clause-pushes
deliver_each-requires-clause-pushes c =
    rows_seen c.args.net.now c.args.pushes.now c.pushes.inside.parts.items c.as_slice-2.result.now c.pushes.inside.spent c.pushes.view_is c.as_slice-2.ensures.value (pushes_unspent c.args.pushes.now c.pushes.inside.parts.items c.pushes.inside.spent c.pushes.view_is c.requires.usable) c.requires.pushes

pub deliver_each-requires-clause-parts : goal.deliver_each-requires-clause-parts
deliver_each-requires-clause-parts c =
    parts_seen c.args.net.now c.args.flow.now c.flow.inside.parts.items c.as_mut_slice.result.now c.flow.inside.labels.items c.flow.inside.delivered.items c.flow.inside.caps c.flow.inside.spent c.flow.view_is
    c.as_mut_slice.ensures.value (flow_unspent c.args.flow.now c.flow.inside.parts.items c.flow.inside.labels.items c.flow.inside.delivered.items c.flow.inside.caps c.flow.inside.spent c.flow.view_is c.requires.unspent) c.requires.flow

pub deliver_each-requires-clause-safe : goal.deliver_each-requires-clause-safe
deliver_each-requires-clause-safe c =
    range_safe c.args.net.now c.args.first c.args.end c.flow.inside.parts.items c.as_mut_slice.result.now c.flow.inside.labels.items c.flow.inside.delivered.items c.flow.inside.caps c.flow.inside.spent
    c.pushes.inside.parts.items c.as_slice-2.result.now c.pushes.inside.spent c.known.ensures.network c.as_mut_slice.ensures.value c.as_slice-2.ensures.value
    (parts_of c.args.net.now c.args.flow.now c.flow.inside.parts.items c.flow.inside.labels.items c.flow.inside.delivered.items c.flow.inside.caps c.flow.inside.spent c.flow.view_is (flow_unspent c.args.flow.now c.flow.inside.parts.items c.flow.inside.labels.items c.flow.inside.delivered.items c.flow.inside.caps c.flow.inside.spent c.flow.view_is c.requires.unspent) c.requires.flow)
    (subst (λ (f : FlowState). NoneMarked (is_marked f) c.args.first c.args.end) (sym c.flow.view_is) c.requires.none)
    (subst (λ (f : FlowState). IsPartlyDelivered c.args.net.now f.labels (push_state c.pushes.inside.parts.items c.pushes.inside.spent).values (is_marked f) f.cells) (sym c.flow.view_is)
    (subst (λ (p : PushState). IsPartlyDelivered c.args.net.now c.args.flow.now.labels p.values (is_marked c.args.flow.now) c.args.flow.now.cells) (sym c.pushes.view_is) c.requires.opening))

pub returns : goal.returns
returns c =
    subst (λ (f : FlowState). RangeDelivered c.args.net.now c.args.pushes.now c.args.first c.args.end f (flow_state (with_items c.flow.inside.parts c.deliver_each.new.parts).items c.flow.inside.labels.items (with_items c.flow.inside.delivered c.mark.new.delivered).items c.flow.inside.caps c.flow.inside.spent)) c.flow.view_is
    (subst (λ (p : PushState). RangeDelivered c.args.net.now p c.args.first c.args.end (flow_state c.flow.inside.parts.items c.flow.inside.labels.items c.flow.inside.delivered.items c.flow.inside.caps c.flow.inside.spent) (flow_state (with_items c.flow.inside.parts c.deliver_each.new.parts).items c.flow.inside.labels.items (with_items c.flow.inside.delivered c.mark.new.delivered).items c.flow.inside.caps c.flow.inside.spent)) c.pushes.view_is
    (range_delivered c.args.net.now c.args.first c.args.end c.flow.inside.parts.items c.as_mut_slice.result.now c.deliver_each.new.parts (with_items c.flow.inside.parts c.deliver_each.new.parts).items
    c.flow.inside.labels.items c.as_slice.result.now c.flow.inside.delivered.items c.as_mut_slice-2.result.now c.mark.new.delivered (with_items c.flow.inside.delivered c.mark.new.delivered).items c.flow.inside.caps c.flow.inside.spent
    c.pushes.inside.parts.items c.as_slice-2.result.now c.pushes.inside.spent c.known.ensures.network c.as_mut_slice.ensures.value c.as_slice.ensures.value c.as_slice-2.ensures.value
    (with_items_is c.flow.inside.parts c.deliver_each.new.parts (omega arith)) c.as_mut_slice-2.ensures.value (with_items_is c.flow.inside.delivered c.mark.new.delivered (omega arith)) (flow_unspent c.args.flow.now c.flow.inside.parts.items c.flow.inside.labels.items c.flow.inside.delivered.items c.flow.inside.caps c.flow.inside.spent c.flow.view_is c.requires.unspent)
    (subst (λ (f : FlowState). IsFlowOf c.args.net.now f) (sym c.flow.view_is) c.requires.flow)
    (subst (λ (f : FlowState). NoneMarked (is_marked f) c.args.first c.args.end) (sym c.flow.view_is) c.requires.none)
    c.deliver_each.ensures.len c.deliver_each.ensures.each (omega arith) c.mark.ensures))

pub invariant_of-flow : goal.invariant_of-flow
invariant_of-flow c = record {
  lists = λ on. absurd (false≢true on);
  numbered = λ free.
      subst (λ (x : List FlowPart). FlowNumbered x) (sym (with_items_is c.flow.inside.parts c.deliver_each.new.parts (omega arith)))
      (numbered_given c.args.net.now c.as_slice.result.now (values_of c.as_slice-2.result.now) c.args.first c.args.end c.as_mut_slice.result.now c.deliver_each.new.parts c.deliver_each.ensures.len c.deliver_each.ensures.each
      (subst (λ (x : List FlowPart). FlowNumbered x) (sym c.as_mut_slice.ensures.value) (c.flow.invariant.numbered free)));
}
