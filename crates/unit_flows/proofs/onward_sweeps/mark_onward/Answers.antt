use Rattle.std.proofs.Common.{◌∙◌, false, ap, length}
use Rattle.std.proofs.lemmas.List.{length-replicate, with_items_is}
use Rattle.aig_graph.specs.Graph.{latches_and_gates}
use Rattle.unit_flows.proofs.MarkLaws.{left-first, left-same}
use Rattle.unit_flows.proofs.onward_sweeps.mark_onward.Goals as goal

pub returns-clause-reach : goal.returns-clause-reach
returns-clause-reach c = left-same c.args.frame.now.circuit.now c.args.frame.now.keep.now c.args.flows.now c.args.went.now c.args.came.now _ _ _ _
    (with_items_is c.in_ok-before.before c.mark_from_left.new.before (c.mark_from_left.ensures.before ∙ c.as_mut_slice.ensures.len))
    (with_items_is c.in_ok-after.after c.mark_from_left.new.after (c.mark_from_left.ensures.after ∙ c.as_mut_slice-2.ensures.len))
    (c.mark_from_left.ensures.reach
    (left-first c.args.frame.now.circuit.now c.args.frame.now.keep.now c.args.flows.now c.args.went.now c.args.came.now c.latches_and_gates-entries.result c.latches_and_gates-entries.result c.as_mut_slice.result.now c.as_mut_slice-2.result.now
    (c.as_mut_slice.ensures.value ∙ c.in_ok-before.ensures.items_if_clones_equal (λ y h. h)) (c.as_mut_slice-2.ensures.value ∙ c.in_ok-after.ensures.items_if_clones_equal (λ y h. h))))

pub mark_from_left-requires-clause-flows : goal.mark_from_left-requires-clause-flows
mark_from_left-requires-clause-flows c = c.requires.flows

pub mark_from_left-requires-clause-went : goal.mark_from_left-requires-clause-went
mark_from_left-requires-clause-went c = c.requires.went

pub mark_from_left-requires-clause-came : goal.mark_from_left-requires-clause-came
mark_from_left-requires-clause-came c = c.requires.came

pub returns-clause-before : goal.returns-clause-before
returns-clause-before c = ap length (with_items_is c.in_ok-before.before c.mark_from_left.new.before (c.mark_from_left.ensures.before ∙ c.as_mut_slice.ensures.len))
    ∙ c.mark_from_left.ensures.before ∙ ap length (c.as_mut_slice.ensures.value ∙ c.in_ok-before.ensures.items_if_clones_equal (λ y h. h))
    ∙ length-replicate c.latches_and_gates-entries.result false ∙ c.latches_and_gates-entries.ensures.value ∙ ap latches_and_gates c.aig.ensures.value

pub returns-clause-after : goal.returns-clause-after
returns-clause-after c = ap length (with_items_is c.in_ok-after.after c.mark_from_left.new.after (c.mark_from_left.ensures.after ∙ c.as_mut_slice-2.ensures.len))
    ∙ c.mark_from_left.ensures.after ∙ ap length (c.as_mut_slice-2.ensures.value ∙ c.in_ok-after.ensures.items_if_clones_equal (λ y h. h))
    ∙ length-replicate c.latches_and_gates-entries.result false ∙ c.latches_and_gates-entries.ensures.value ∙ ap latches_and_gates c.aig.ensures.value
