use Rattle.std.proofs.Common.{◌∙◌, ◌≡◌, ◌+◌, ap, sym, arith, not, length, List, ℕ, Bool, false, get_or}
use Rattle.aig_graph.specs.Graph.{Graph, first_latch, latches_and_gates, variables_end}
use Rattle.aig_graph.specs.declared.graph.Latch.{Latch}
use Rattle.rebuild.proofs.BorderLaws.{not_outside_before}
use Rattle.rebuild.proofs.MovedLaws.{gates_start-is}
use Rattle.rebuild.proofs.NumberLaws.{count-at, count-next, latched-mark, new-number, no-outside-before, none-latched-before, outside-mark}
use Rattle.rebuild.proofs.PlanLaws.{length-by_variable}
use Rattle.rebuild.specs.Moved.{is_latched, is_outside, new_variable}
use Rattle.rebuild.specs.Planned.{marked}
use Rattle.aig_graph.proofs.PlacesLaws.{count-bound}
use Rattle.aig_graph.proofs.TableLaws.{entry, length-table, table-end, table-none}
use Rattle.aig_graph.specs.Marking.{has}
use Rattle.rebuild.proofs.numbers.new_variables.Goals as goal

pub loop-k-init : goal.loop-k-init
loop-k-init c =
    let k = c.args.marks.now in
    let m = marked k in
    let g = k.circuit.now.aig in
    record {
      room = omega (arith, c.in_ok-numbers.ensures.room, length-by_variable g (is_latched m) c.as_slice-latched.result.now (c.as_slice-latched.ensures.value ∙ k.latched_are));
      within = omega arith;
      latch_is = omega (arith, k.first_is, none-latched-before m k.passable k.latched.items k.latched_are);
      filled = c.in_ok-numbers.ensures.none ∙ sym (table-none (first_latch g) (new_variable m));
    }

pub overflow_cast-own : goal.overflow_cast-own
overflow_cast-own c =
    let k = c.args.marks.now in
    let m = marked k in
    let g = k.circuit.now.aig in
    omega (arith, c.loop-k-test.true, ap (λ (xs : List Latch). length xs) (c.latches-latches.ensures.value ∙ ap (λ (h : Graph). h.latches) c.aig.ensures), k.graph.small)

pub overflow_add-own : goal.overflow_add-own
overflow_add-own c =
    let k = c.args.marks.now in
    let m = marked k in
    let g = k.circuit.now.aig in
    omega (arith, c.loop-k-test.true, ap (λ (xs : List Latch). length xs) (c.latches-latches.ensures.value ∙ ap (λ (h : Graph). h.latches) c.aig.ensures), k.graph.small, k.first_is)

pub push_reserved-requires : goal.push_reserved-requires
push_reserved-requires c =
    let k = c.args.marks.now in
    let m = marked k in
    let g = k.circuit.now.aig in
    omega (arith, c.loop-k-test.true, ap (λ (xs : List Latch). length xs) (c.latches-latches.ensures.value ∙ ap (λ (h : Graph). h.latches) c.aig.ensures), ap length c.loop-k.invariant.filled, length-table (first_latch g) c.loop-k.k (new_variable m), c.loop-k.invariant.room)

pub overflow_add-latch : goal.overflow_add-latch
overflow_add-latch c =
    let k = c.args.marks.now in
    let m = marked k in
    let g = k.circuit.now.aig in
    omega (arith, c.loop-k-test.true, ap (λ (xs : List Latch). length xs) (c.latches-latches.ensures.value ∙ ap (λ (h : Graph). h.latches) c.aig.ensures), k.graph.small, c.loop-k.invariant.latch_is, count-bound (is_latched m) (first_latch g + c.loop-k.k), c.one_if-latch.ensures.small)

pub overflow_cast-own-in-loop-k-2 : goal.overflow_cast-own-in-loop-k-2
overflow_cast-own-in-loop-k-2 c =
    let k = c.args.marks.now in
    let m = marked k in
    let g = k.circuit.now.aig in
    omega (arith, c.loop-k-2-test.true, length-by_variable g (is_latched m) c.as_slice-latched.result.now (c.as_slice-latched.ensures.value ∙ k.latched_are), k.graph.small)

pub overflow_add-own-in-loop-k-2 : goal.overflow_add-own-in-loop-k-2
overflow_add-own-in-loop-k-2 c =
    let k = c.args.marks.now in
    let m = marked k in
    let g = k.circuit.now.aig in
    omega (arith, c.loop-k-2-test.true, length-by_variable g (is_latched m) c.as_slice-latched.result.now (c.as_slice-latched.ensures.value ∙ k.latched_are), k.graph.small, k.first_is)

pub push_reserved-requires-in-loop-k-2 : goal.push_reserved-requires-in-loop-k-2
push_reserved-requires-in-loop-k-2 c =
    let k = c.args.marks.now in
    let m = marked k in
    let g = k.circuit.now.aig in
    omega (arith, c.loop-k-2-test.true, length-by_variable g (is_latched m) c.as_slice-latched.result.now (c.as_slice-latched.ensures.value ∙ k.latched_are), ap length c.loop-k-2.invariant.filled, length-table (first_latch g) c.loop-k-2.k (new_variable m), c.loop-k-2.invariant.room)

pub overflow_add-latch-in-loop-k-2 : goal.overflow_add-latch-in-loop-k-2
overflow_add-latch-in-loop-k-2 c =
    let k = c.args.marks.now in
    let m = marked k in
    let g = k.circuit.now.aig in
    omega (arith, c.loop-k-2-test.true, length-by_variable g (is_latched m) c.as_slice-latched.result.now (c.as_slice-latched.ensures.value ∙ k.latched_are), k.graph.small, c.loop-k-2.invariant.latch_is, count-bound (is_latched m) (first_latch g + c.loop-k-2.k), c.one_if-latch-in-loop-k-2.ensures.small)

pub bounds-latched-k : goal.bounds-latched-k
bounds-latched-k c =
    let k = c.args.marks.now in
    let m = marked k in
    let g = k.circuit.now.aig in
    omega (arith, c.loop-k-test.true, ap (λ (xs : List Latch). length xs) (c.latches-latches.ensures.value ∙ ap (λ (h : Graph). h.latches) c.aig.ensures), length-by_variable g (is_latched m) c.as_slice-latched.result.now (c.as_slice-latched.ensures.value ∙ k.latched_are))

pub bounds-latched-k-in-loop-k : goal.bounds-latched-k-in-loop-k
bounds-latched-k-in-loop-k c =
    let k = c.args.marks.now in
    let m = marked k in
    let g = k.circuit.now.aig in
    omega (arith, c.loop-k-test.true, ap (λ (xs : List Latch). length xs) (c.latches-latches.ensures.value ∙ ap (λ (h : Graph). h.latches) c.aig.ensures), length-by_variable g (is_latched m) c.as_slice-latched.result.now (c.as_slice-latched.ensures.value ∙ k.latched_are))

pub bounds-members-k : goal.bounds-members-k
bounds-members-k c =
    let k = c.args.marks.now in
    let m = marked k in
    let g = k.circuit.now.aig in
    omega (arith, c.loop-k-2-test.true, length-by_variable g (is_latched m) c.as_slice-latched.result.now (c.as_slice-latched.ensures.value ∙ k.latched_are), length-by_variable g (has k.set.now) c.as_slice-members.result.now (c.as_slice-members.ensures.value ∙ k.members_are))

pub bounds-members-k-in-loop-k-2 : goal.bounds-members-k-in-loop-k-2
bounds-members-k-in-loop-k-2 c =
    let k = c.args.marks.now in
    let m = marked k in
    let g = k.circuit.now.aig in
    omega (arith, c.loop-k-2-test.true, length-by_variable g (is_latched m) c.as_slice-latched.result.now (c.as_slice-latched.ensures.value ∙ k.latched_are), length-by_variable g (has k.set.now) c.as_slice-members.result.now (c.as_slice-members.ensures.value ∙ k.members_are))

pub overflow_add-gate : goal.overflow_add-gate
overflow_add-gate c =
    let k = c.args.marks.now in
    let m = marked k in
    let g = k.circuit.now.aig in
    omega (arith, c.loop-k-2-test.true, length-by_variable g (is_latched m) c.as_slice-latched.result.now (c.as_slice-latched.ensures.value ∙ k.latched_are), k.graph.small, c.loop-k-2.invariant.gate_is, count-bound (is_outside m) (first_latch g + c.loop-k-2.k), count-bound (is_latched m) (variables_end g), gates_start-is m, c.one_if-gate.ensures.small)

pub loop-k-preserved : goal.loop-k-preserved
loop-k-preserved c =
    let k = c.args.marks.now in
    let m = marked k in
    let g = k.circuit.now.aig in
    let v : ℕ = first_latch g + c.loop-k.k in
    let mark : Bool = get_or c.as_slice-latched.result.now c.loop-k.k false in
    let kept : is_latched m v ≡ mark = latched-mark m k.passable c.as_slice-latched.result.now c.loop-k.k (c.as_slice-latched.ensures.value ∙ k.latched_are) (omega (arith, c.loop-k-test.true, ap (λ (xs : List Latch). length xs) (c.latches-latches.ensures.value ∙ ap (λ (h : Graph). h.latches) c.aig.ensures), length-by_variable g (is_latched m) c.as_slice-latched.result.now (c.as_slice-latched.ensures.value ∙ k.latched_are))) in
    record {
      room = omega (arith, c.loop-k.invariant.room, c.push_reserved.ensures.capacity);
      within = omega (arith, c.loop-k-test.true, ap (λ (xs : List Latch). length xs) (c.latches-latches.ensures.value ∙ ap (λ (h : Graph). h.latches) c.aig.ensures));
      latch_is = omega (arith, c.loop-k.invariant.latch_is, c.one_if-latch.ensures.value, count-next (is_latched m) (first_latch g) c.loop-k.k mark kept);
      filled = entry (first_latch g) c.loop-k.k (new_variable m) c.loop-k.numbers.items c.push_reserved.new.self.items c.number_of.result c.loop-k.invariant.filled c.push_reserved.ensures.items
          (new-number m v c.loop-k.latch c.args.start (k.first + c.loop-k.k) c.number_of.result mark false kept (not_outside_before m v (omega (arith, c.loop-k-test.true, ap (λ (xs : List Latch). length xs) (c.latches-latches.ensures.value ∙ ap (λ (h : Graph). h.latches) c.aig.ensures)))) c.loop-k.invariant.latch_is
          (λ e. omega (arith, c.requires, no-outside-before m k.passable v (omega (arith, c.loop-k-test.true, ap (λ (xs : List Latch). length xs) (c.latches-latches.ensures.value ∙ ap (λ (h : Graph). h.latches) c.aig.ensures))))) (ap (λ (n : ℕ). n + c.loop-k.k) k.first_is) c.number_of.ensures);
    }

pub loop-k-2-init : goal.loop-k-2-init
loop-k-2-init c =
    let k = c.args.marks.now in
    let m = marked k in
    let g = k.circuit.now.aig in
    let n : ℕ = length c.latches-latches.result.now in
    record {
      room = c.loop-k.invariant.room;
      from = omega (arith, ap (λ (xs : List Latch). length xs) (c.latches-latches.ensures.value ∙ ap (λ (h : Graph). h.latches) c.aig.ensures));
      within = omega (arith, ap (λ (xs : List Latch). length xs) (c.latches-latches.ensures.value ∙ ap (λ (h : Graph). h.latches) c.aig.ensures));
      latch_is = omega (arith, c.loop-k.invariant.latch_is, count-at (is_latched m) (first_latch g + c.loop-k.k) (first_latch g + n) (omega (arith, ap (λ (xs : List Latch). length xs) (c.latches-latches.ensures.value ∙ ap (λ (h : Graph). h.latches) c.aig.ensures), c.loop-k.invariant.within)) (omega (arith, c.loop-k-test.false)));
      gate_is = omega (arith, c.requires, no-outside-before m k.passable (first_latch g + n) (omega (arith, ap (λ (xs : List Latch). length xs) (c.latches-latches.ensures.value ∙ ap (λ (h : Graph). h.latches) c.aig.ensures))));
      filled = table-end (first_latch g) c.loop-k.k n (new_variable m) c.loop-k.numbers.items (omega (arith, ap (λ (xs : List Latch). length xs) (c.latches-latches.ensures.value ∙ ap (λ (h : Graph). h.latches) c.aig.ensures), c.loop-k.invariant.within)) (omega (arith, c.loop-k-test.false)) c.loop-k.invariant.filled;
    }

pub loop-k-2-preserved : goal.loop-k-2-preserved
loop-k-2-preserved c =
    let k = c.args.marks.now in
    let m = marked k in
    let g = k.circuit.now.aig in
    let v : ℕ = first_latch g + c.loop-k-2.k in
    let mark : Bool = get_or c.as_slice-latched.result.now c.loop-k-2.k false in
    let outer : Bool = not (get_or c.as_slice-members.result.now c.loop-k-2.k false) in
    let kept : is_latched m v ≡ mark = latched-mark m k.passable c.as_slice-latched.result.now c.loop-k-2.k (c.as_slice-latched.ensures.value ∙ k.latched_are) (omega (arith, c.loop-k-2-test.true)) in
    let outside : is_outside m v ≡ outer =
    outside-mark m k.passable c.as_slice-members.result.now c.loop-k-2.k (c.as_slice-members.ensures.value ∙ k.members_are) c.loop-k-2.invariant.from (omega (arith, c.loop-k-2-test.true, length-by_variable g (is_latched m) c.as_slice-latched.result.now (c.as_slice-latched.ensures.value ∙ k.latched_are), length-by_variable g (has k.set.now) c.as_slice-members.result.now (c.as_slice-members.ensures.value ∙ k.members_are))) in
    record {
      room = omega (arith, c.loop-k-2.invariant.room, c.push_reserved-in-loop-k-2.ensures.capacity);
      from = omega (arith, c.loop-k-2.invariant.from);
      within = omega (arith, c.loop-k-2-test.true, length-by_variable g (is_latched m) c.as_slice-latched.result.now (c.as_slice-latched.ensures.value ∙ k.latched_are));
      latch_is = omega (arith, c.loop-k-2.invariant.latch_is, c.one_if-latch-in-loop-k-2.ensures.value, count-next (is_latched m) (first_latch g) c.loop-k-2.k mark kept);
      gate_is = omega (arith, c.loop-k-2.invariant.gate_is, c.one_if-gate.ensures.value, count-next (is_outside m) (first_latch g) c.loop-k-2.k outer outside);
      filled = entry (first_latch g) c.loop-k-2.k (new_variable m) c.loop-k-2.numbers.items c.push_reserved-in-loop-k-2.new.self.items c.number_of-in-loop-k-2.result c.loop-k-2.invariant.filled c.push_reserved-in-loop-k-2.ensures.items
          (new-number m v c.loop-k-2.latch c.loop-k-2.gate (k.first + c.loop-k-2.k) c.number_of-in-loop-k-2.result mark outer kept outside c.loop-k-2.invariant.latch_is
          (λ e. c.loop-k-2.invariant.gate_is) (ap (λ (n : ℕ). n + c.loop-k-2.k) k.first_is) c.number_of-in-loop-k-2.ensures);
    }

pub returns : goal.returns
returns c =
    let k = c.args.marks.now in
    let m = marked k in
    let g = k.circuit.now.aig in
    table-end (first_latch g) c.loop-k-2.k (latches_and_gates g) (new_variable m) c.loop-k-2.numbers.items c.loop-k-2.invariant.within (omega (arith, length-by_variable g (is_latched m) c.as_slice-latched.result.now (c.as_slice-latched.ensures.value ∙ k.latched_are), c.loop-k-2-test.false)) c.loop-k-2.invariant.filled
