use Rattle.std.proofs.Common.{◌≡◌, ◌∙◌, ◌+◌, false, arith, ap, length}
use Rattle.std.proofs.lemmas.List.{length-replicate, with_items_is}
use Rattle.aig_graph.specs.Graph.{Graph, latches_and_gates}
use Rattle.unit_flows.proofs.FrameLaws.{leaving-long}
use Rattle.unit_flows.proofs.MarkLaws.{reach-first, reach-same}
use Rattle.unit_flows.proofs.sweeps.mark.Goals as goal

pub sweep_all-requires-clause-none : goal.sweep_all-requires-clause-none
sweep_all-requires-clause-none c = c.clear_numbers.ensures.none

pub sweep_all-requires-clause-room : goal.sweep_all-requires-clause-room
sweep_all-requires-clause-room c =
    let g : Graph = c.args.frame.now.circuit.now.aig in
    let places : c.latches_and_gates-places.result ≡ length g.latches + length g.gates =
    c.latches_and_gates-places.ensures.value ∙ ap latches_and_gates c.aig-aig.ensures.value in
    omega (arith, c.in_ok-clear_numbers.ensures.room, places)

pub sweep_all-requires-clause-flows : goal.sweep_all-requires-clause-flows
sweep_all-requires-clause-flows c = c.requires

pub sweep_all-requires-clause-before : goal.sweep_all-requires-clause-before
sweep_all-requires-clause-before c = ap length (c.as_mut_slice.ensures.value ∙ c.in_ok-before.ensures)
    ∙ length-replicate c.latches_and_gates-places.result false ∙ c.latches_and_gates-places.ensures.value ∙ ap latches_and_gates c.aig-aig.ensures.value

pub sweep_all-requires-clause-after : goal.sweep_all-requires-clause-after
sweep_all-requires-clause-after c = ap length (c.as_mut_slice-2.ensures.value ∙ c.in_ok-after.ensures)
    ∙ leaving-long c.args.frame.now.circuit.now c.args.frame.now.keep.now c.args.frame.now.leaving.items c.args.frame.now.leaving_are

pub returns-clause-reach : goal.returns-clause-reach
returns-clause-reach c = reach-same c.args.frame.now.circuit.now c.args.frame.now.keep.now c.args.flows.now _ _ _ _
    (with_items_is c.in_ok-before.before c.sweep_all.new.before (c.sweep_all.ensures.before ∙ c.as_mut_slice.ensures.len))
    (with_items_is c.in_ok-after.after c.sweep_all.new.after (c.sweep_all.ensures.after ∙ c.as_mut_slice-2.ensures.len))
    (c.sweep_all.ensures.reach c.args.frame.now.keep.now
    (reach-first c.args.frame.now.circuit.now c.args.frame.now.keep.now c.args.flows.now c.latches_and_gates-places.result c.as_mut_slice.result.now c.as_mut_slice-2.result.now
    (c.as_mut_slice.ensures.value ∙ c.in_ok-before.ensures) (c.as_mut_slice-2.ensures.value ∙ c.in_ok-after.ensures ∙ c.args.frame.now.leaving_are)))

pub returns-clause-after : goal.returns-clause-after
returns-clause-after c = ap length (with_items_is c.in_ok-after.after c.sweep_all.new.after (c.sweep_all.ensures.after ∙ c.as_mut_slice-2.ensures.len))
    ∙ c.sweep_all.ensures.after ∙ ap length (c.as_mut_slice-2.ensures.value ∙ c.in_ok-after.ensures)
    ∙ leaving-long c.args.frame.now.circuit.now c.args.frame.now.keep.now c.args.frame.now.leaving.items c.args.frame.now.leaving_are

pub returns-clause-before : goal.returns-clause-before
returns-clause-before c = ap length (with_items_is c.in_ok-before.before c.sweep_all.new.before (c.sweep_all.ensures.before ∙ c.as_mut_slice.ensures.len))
    ∙ c.sweep_all.ensures.before ∙ ap length (c.as_mut_slice.ensures.value ∙ c.in_ok-before.ensures)
    ∙ length-replicate c.latches_and_gates-places.result false ∙ c.latches_and_gates-places.ensures.value ∙ ap latches_and_gates c.aig-aig.ensures.value
