use Rattle.std.proofs.Common.{arith, ap, ◌∙◌, length}
use Rattle.std.specs.Vec.{with_items}
use Rattle.std.proofs.lemmas.List.{with_items_is}
use Rattle.pulse_parts.proofs.NumberLaws.{numbered_held}
use Rattle.pulse.specs.Values.{FlowState}
use Rattle.pulse.proofs.FlowLaws.{flow_unspent, parts_seen}
use Rattle.pulse.proofs.RelabelLaws.{held_flow, hold_ready, holds_seen, lists_relabelled, relabelled}
use Rattle.pulse.proofs.relabel.relabel.Goals as goal

pub exact_labels-requires-clause-parts : goal.exact_labels-requires-clause-parts
exact_labels-requires-clause-parts c =
    parts_seen c.args.net.now c.args.flow.now c.flow.inside.parts.items c.as_slice.result.now c.flow.inside.labels.items c.flow.inside.delivered.items c.flow.inside.caps c.flow.inside.spent c.flow.view_is
    c.as_slice.ensures.value (flow_unspent c.args.flow.now c.flow.inside.parts.items c.flow.inside.labels.items c.flow.inside.delivered.items c.flow.inside.caps c.flow.inside.spent c.flow.view_is c.requires.flow.unspent) c.requires.flow.fits

pub exact_labels-requires-clause-labels : goal.exact_labels-requires-clause-labels
exact_labels-requires-clause-labels c = ap length c.as_mut_slice.ensures.value ∙ ap (λ (f : FlowState). length f.labels) c.flow.view_is ∙ c.requires.flow.fits.labelled.each

pub hold_labels-requires : goal.hold_labels-requires
hold_labels-requires c =
    hold_ready c.args.net.now c.args.flow.now c.flow.inside.parts.items c.as_mut_slice-parts.result.now c.flow.inside.labels.items c.as_mut_slice.result.now c.exact_labels.new.labels (with_items c.flow.inside.labels c.exact_labels.new.labels).items c.as_slice-labels.result.now
    c.flow.inside.delivered.items c.flow.inside.caps c.flow.inside.spent c.flow.view_is c.as_mut_slice-parts.ensures.value c.as_mut_slice.ensures.value (with_items_is c.flow.inside.labels c.exact_labels.new.labels (omega arith)) c.as_slice-labels.ensures.value
    (omega arith) c.requires.flow

pub returns-clause-flow : goal.returns-clause-flow
returns-clause-flow c =
    (held_flow c.args.net.now c.args.flow.now (with_items c.flow.inside.labels c.exact_labels.new.labels).items (with_items c.flow.inside.labels c.exact_labels.new.labels).items c.flow.inside.parts.items (with_items c.flow.inside.parts c.hold_labels.new.parts).items c.flow.inside.delivered.items c.flow.inside.caps c.flow.inside.spent
    c.known.ensures.network (ap length (with_items_is c.flow.inside.parts c.hold_labels.new.parts (omega arith)) ∙ (c.hold_labels.ensures.len ∙ ap length c.as_mut_slice-parts.ensures.value))
    (holds_seen (with_items c.flow.inside.labels c.exact_labels.new.labels).items c.as_slice-labels.result.now c.flow.inside.parts.items c.as_mut_slice-parts.result.now (with_items c.flow.inside.parts c.hold_labels.new.parts).items c.hold_labels.new.parts c.as_slice-labels.ensures.value c.as_mut_slice-parts.ensures.value (with_items_is c.flow.inside.parts c.hold_labels.new.parts (omega arith)) c.hold_labels.ensures.each)
    (relabelled c.args.net.now c.args.flow.now c.flow.inside.parts.items c.as_slice.result.now c.flow.inside.labels.items c.as_mut_slice.result.now c.exact_labels.new.labels (with_items c.flow.inside.labels c.exact_labels.new.labels).items
    c.flow.inside.delivered.items c.flow.inside.caps c.flow.inside.spent c.known.ensures.network c.flow.view_is c.as_slice.ensures.value c.as_mut_slice.ensures.value
    (with_items_is c.flow.inside.labels c.exact_labels.new.labels (omega arith)) (omega arith) c.requires.flow c.exact_labels.ensures)).between

pub returns-clause-exact : goal.returns-clause-exact
returns-clause-exact c =
    (held_flow c.args.net.now c.args.flow.now (with_items c.flow.inside.labels c.exact_labels.new.labels).items (with_items c.flow.inside.labels c.exact_labels.new.labels).items c.flow.inside.parts.items (with_items c.flow.inside.parts c.hold_labels.new.parts).items c.flow.inside.delivered.items c.flow.inside.caps c.flow.inside.spent
    c.known.ensures.network (ap length (with_items_is c.flow.inside.parts c.hold_labels.new.parts (omega arith)) ∙ (c.hold_labels.ensures.len ∙ ap length c.as_mut_slice-parts.ensures.value))
    (holds_seen (with_items c.flow.inside.labels c.exact_labels.new.labels).items c.as_slice-labels.result.now c.flow.inside.parts.items c.as_mut_slice-parts.result.now (with_items c.flow.inside.parts c.hold_labels.new.parts).items c.hold_labels.new.parts c.as_slice-labels.ensures.value c.as_mut_slice-parts.ensures.value (with_items_is c.flow.inside.parts c.hold_labels.new.parts (omega arith)) c.hold_labels.ensures.each)
    (relabelled c.args.net.now c.args.flow.now c.flow.inside.parts.items c.as_slice.result.now c.flow.inside.labels.items c.as_mut_slice.result.now c.exact_labels.new.labels (with_items c.flow.inside.labels c.exact_labels.new.labels).items
    c.flow.inside.delivered.items c.flow.inside.caps c.flow.inside.spent c.known.ensures.network c.flow.view_is c.as_slice.ensures.value c.as_mut_slice.ensures.value
    (with_items_is c.flow.inside.labels c.exact_labels.new.labels (omega arith)) (omega arith) c.requires.flow c.exact_labels.ensures)).agree

pub invariant_of-flow : goal.invariant_of-flow
invariant_of-flow c = record {
  lists = λ on.
      lists_relabelled c.args.net.now c.args.flow.now c.flow.inside.parts.items c.as_slice.result.now (with_items c.flow.inside.parts c.hold_labels.new.parts).items c.flow.inside.labels.items c.as_mut_slice.result.now c.exact_labels.new.labels (with_items c.flow.inside.labels c.exact_labels.new.labels).items
      c.flow.inside.delivered.items c.flow.inside.caps c.flow.inside.spent c.flow.view_is c.as_slice.ensures.value c.as_mut_slice.ensures.value (with_items_is c.flow.inside.labels c.exact_labels.new.labels (omega arith))
      (omega arith) c.requires.flow c.exact_labels.ensures (ap length (with_items_is c.flow.inside.parts c.hold_labels.new.parts (omega arith)) ∙ (c.hold_labels.ensures.len ∙ ap length c.as_mut_slice-parts.ensures.value))
      (holds_seen (with_items c.flow.inside.labels c.exact_labels.new.labels).items c.as_slice-labels.result.now c.flow.inside.parts.items c.as_mut_slice-parts.result.now (with_items c.flow.inside.parts c.hold_labels.new.parts).items c.hold_labels.new.parts c.as_slice-labels.ensures.value c.as_mut_slice-parts.ensures.value (with_items_is c.flow.inside.parts c.hold_labels.new.parts (omega arith)) c.hold_labels.ensures.each)
      (c.flow.invariant.lists on);
  numbered = λ free. numbered_held (with_items c.flow.inside.labels c.exact_labels.new.labels).items c.flow.inside.parts.items (with_items c.flow.inside.parts c.hold_labels.new.parts).items
      (ap length (with_items_is c.flow.inside.parts c.hold_labels.new.parts (omega arith)) ∙ (c.hold_labels.ensures.len ∙ ap length c.as_mut_slice-parts.ensures.value))
      (holds_seen (with_items c.flow.inside.labels c.exact_labels.new.labels).items c.as_slice-labels.result.now c.flow.inside.parts.items c.as_mut_slice-parts.result.now (with_items c.flow.inside.parts c.hold_labels.new.parts).items c.hold_labels.new.parts c.as_slice-labels.ensures.value c.as_mut_slice-parts.ensures.value (with_items_is c.flow.inside.parts c.hold_labels.new.parts (omega arith)) c.hold_labels.ensures.each)
      (c.flow.invariant.numbered free);
}
