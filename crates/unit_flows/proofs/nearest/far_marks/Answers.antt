use Rattle.std.proofs.Common.{◌≡◌, ◌∙◌, Bool, List, false, not, length, get_or, arith, ap}
use Rattle.std.proofs.lemmas.List.{with_items_is}
use Rattle.aig_graph.specs.Graph.{first_latch, latches_and_gates}
use Rattle.unit_flows.proofs.MarkLaws.{flipped-off}
use Rattle.unit_flows.proofs.nearest.far_marks.Goals as goal

pub returns-clause-far : goal.returns-clause-far
returns-clause-far c = λ b a down v low high off.
    let same = with_items_is c.in_ok-marks.marks.before c.flip.new.marks (c.flip.ensures.len ∙ c.as_mut_slice.ensures.len) in
    let lent : c.as_mut_slice.result.now ≡ c.in_ok-marks.marks.before.items = c.as_mut_slice.ensures.value in
    (c.in_ok-marks.ensures.reach b a down).each_before v
    (flipped-off (first_latch c.args.frame.now.circuit.now.aig) (latches_and_gates c.args.frame.now.circuit.now.aig) c.in_ok-marks.marks.before.items _ v
    (λ k within. ap (λ (xs : List Bool). get_or xs k false) same ∙ c.flip.ensures.each k (omega (arith, within, ap length lent)) ∙ ap (λ (xs : List Bool). not (get_or xs k false)) lent)
    c.in_ok-marks.ensures.before low (omega (arith, high)) off)

pub mark_onward-requires-clause-flows : goal.mark_onward-requires-clause-flows
mark_onward-requires-clause-flows c = c.requires.flows

pub mark_onward-requires-clause-went : goal.mark_onward-requires-clause-went
mark_onward-requires-clause-went c = c.requires.went

pub mark_onward-requires-clause-came : goal.mark_onward-requires-clause-came
mark_onward-requires-clause-came c = c.requires.came

pub returns-clause-before : goal.returns-clause-before
returns-clause-before c = ap length (with_items_is c.in_ok-marks.marks.before c.flip.new.marks (c.flip.ensures.len ∙ c.as_mut_slice.ensures.len))
    ∙ c.flip.ensures.len ∙ ap length c.as_mut_slice.ensures.value ∙ c.in_ok-marks.ensures.before

pub returns-clause-after : goal.returns-clause-after
returns-clause-after c = ap length (with_items_is c.in_ok-marks.marks.after c.flip-2.new.marks (c.flip-2.ensures.len ∙ c.as_mut_slice-2.ensures.len))
    ∙ c.flip-2.ensures.len ∙ ap length c.as_mut_slice-2.ensures.value ∙ c.in_ok-marks.ensures.after
