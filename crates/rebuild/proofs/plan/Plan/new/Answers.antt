use Rattle.std.proofs.Common.{◌∙◌, ap, arith, length, List}
use Rattle.aig_graph.specs.Graph.{Graph, first_latch, variables_end}
use Rattle.aig_graph.specs.declared.graph.Gate.{Gate}
use Rattle.rebuild.proofs.MovedLaws.{copies_start-is, gates_start-is}
use Rattle.rebuild.proofs.NumberLaws.{count-both}
use Rattle.rebuild.proofs.PlanLaws.{all-latched, all-members, counted, length-by_variable}
use Rattle.rebuild.specs.Moved.{is_latched}
use Rattle.rebuild.specs.Planned.{marked}
use Rattle.aig_graph.proofs.PlacesLaws.{count-bound}
use Rattle.aig_graph.specs.Marking.{has}
use Rattle.rebuild.proofs.plan.Plan.new.Goals as goal

pub count_marks-requires : goal.count_marks-requires
count_marks-requires c =
    let k = c.args.marks in
    let m = marked k in
    let g = k.circuit.now.aig in
    omega (arith, length-by_variable g (is_latched m) c.as_slice.result.now (c.as_slice.ensures.value ∙ k.latched_are), k.graph.small)

pub overflow_add-gates_start : goal.overflow_add-gates_start
overflow_add-gates_start c =
    let k = c.args.marks in
    let m = marked k in
    let g = k.circuit.now.aig in
    let latched = counted m (is_latched m) c.as_slice.result.now c.count_marks.result (c.as_slice.ensures.value ∙ k.latched_are)
    (c.count_marks.ensures (first_latch g) (is_latched m) (all-latched m k.passable c.as_slice.result.now (c.as_slice.ensures.value ∙ k.latched_are))) in
    omega (arith, latched, count-bound (is_latched m) (variables_end g), k.graph.small, k.first_is)

pub overflow_cast-outside : goal.overflow_cast-outside
overflow_cast-outside c =
    let k = c.args.marks in
    let m = marked k in
    let g = k.circuit.now.aig in
    omega (arith, ap (λ (xs : List Gate). length xs) (c.gates.ensures.value ∙ ap (λ (h : Graph). h.gates) c.aig.ensures), k.graph.small)

pub count_marks-requires-2 : goal.count_marks-requires-2
count_marks-requires-2 c =
    let k = c.args.marks in
    let m = marked k in
    let g = k.circuit.now.aig in
    omega (arith, length-by_variable g (has k.set.now) c.as_slice-2.result.now (c.as_slice-2.ensures.value ∙ k.members_are), k.graph.small)

pub overflow_sub-outside : goal.overflow_sub-outside
overflow_sub-outside c =
    let k = c.args.marks in
    let m = marked k in
    let g = k.circuit.now.aig in
    let members = counted m (has k.set.now) c.as_slice-2.result.now c.count_marks-2.result (c.as_slice-2.ensures.value ∙ k.members_are)
    (c.count_marks-2.ensures (first_latch g) (has k.set.now) (all-members m k.passable c.as_slice-2.result.now (c.as_slice-2.ensures.value ∙ k.members_are))) in
    omega (arith, members, ap (λ (xs : List Gate). length xs) (c.gates.ensures.value ∙ ap (λ (h : Graph). h.gates) c.aig.ensures), count-both m k.passable)

pub overflow_add-first_copy : goal.overflow_add-first_copy
overflow_add-first_copy c =
    let k = c.args.marks in
    let m = marked k in
    let g = k.circuit.now.aig in
    let latched = counted m (is_latched m) c.as_slice.result.now c.count_marks.result (c.as_slice.ensures.value ∙ k.latched_are)
    (c.count_marks.ensures (first_latch g) (is_latched m) (all-latched m k.passable c.as_slice.result.now (c.as_slice.ensures.value ∙ k.latched_are))) in
    omega (arith, latched, count-bound (is_latched m) (variables_end g), ap (λ (xs : List Gate). length xs) (c.gates.ensures.value ∙ ap (λ (h : Graph). h.gates) c.aig.ensures), k.graph.small, k.first_is)

pub new_variables-requires : goal.new_variables-requires
new_variables-requires c =
    let k = c.args.marks in
    let m = marked k in
    let g = k.circuit.now.aig in
    let latched = counted m (is_latched m) c.as_slice.result.now c.count_marks.result (c.as_slice.ensures.value ∙ k.latched_are)
    (c.count_marks.ensures (first_latch g) (is_latched m) (all-latched m k.passable c.as_slice.result.now (c.as_slice.ensures.value ∙ k.latched_are))) in
    omega (arith, latched, k.first_is, gates_start-is m)

pub advanced_literals-requires-clause-table : goal.advanced_literals-requires-clause-table
advanced_literals-requires-clause-table c =
    let k = c.args.marks in
    let m = marked k in
    let g = k.circuit.now.aig in
    c.as_slice-3.ensures.value ∙ c.in_ok-variables.ensures

pub advanced_literals-requires-clause-start : goal.advanced_literals-requires-clause-start
advanced_literals-requires-clause-start c =
    let k = c.args.marks in
    let m = marked k in
    let g = k.circuit.now.aig in
    let latched = counted m (is_latched m) c.as_slice.result.now c.count_marks.result (c.as_slice.ensures.value ∙ k.latched_are)
    (c.count_marks.ensures (first_latch g) (is_latched m) (all-latched m k.passable c.as_slice.result.now (c.as_slice.ensures.value ∙ k.latched_are))) in
    let members = counted m (has k.set.now) c.as_slice-2.result.now c.count_marks-2.result (c.as_slice-2.ensures.value ∙ k.members_are)
    (c.count_marks-2.ensures (first_latch g) (has k.set.now) (all-members m k.passable c.as_slice-2.result.now (c.as_slice-2.ensures.value ∙ k.members_are))) in
    omega (arith, latched, members, ap (λ (xs : List Gate). length xs) (c.gates.ensures.value ∙ ap (λ (h : Graph). h.gates) c.aig.ensures), count-both m k.passable, k.first_is, gates_start-is m, copies_start-is m)

pub invariant_of-result : goal.invariant_of-result
invariant_of-result c =
    let k = c.args.marks in
    let m = marked k in
    let g = k.circuit.now.aig in
    let latched = counted m (is_latched m) c.as_slice.result.now c.count_marks.result (c.as_slice.ensures.value ∙ k.latched_are)
    (c.count_marks.ensures (first_latch g) (is_latched m) (all-latched m k.passable c.as_slice.result.now (c.as_slice.ensures.value ∙ k.latched_are))) in
    let members = counted m (has k.set.now) c.as_slice-2.result.now c.count_marks-2.result (c.as_slice-2.ensures.value ∙ k.members_are)
    (c.count_marks-2.ensures (first_latch g) (has k.set.now) (all-members m k.passable c.as_slice-2.result.now (c.as_slice-2.ensures.value ∙ k.members_are))) in
    record {
      moved = c.requires.moved;
      room = c.requires.room;
      variables_are = c.in_ok-variables.ensures;
      later_are = c.in_ok-later.ensures;
    }
