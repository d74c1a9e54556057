use Rattle.std.proofs.Common.{◌∙◌, ◌≡◌, ◌+◌, ◌*◌, ap, sym, arith, length, List, ℕ, Bool, false, Some, slice_get, get_or, cond}
use Rattle.aig_graph.specs.Graph.{Graph, first_latch, latches_and_gates, variables_end}
use Rattle.aig_graph.specs.declared.graph.Latch.{Latch}
use Rattle.rebuild.proofs.BuildLaws.{latch-there}
use Rattle.rebuild.proofs.MovedLaws.{copy_variable-is}
use Rattle.rebuild.proofs.NumberLaws.{advanced-gate, advanced-latch, count-next, member-mark, no-members-before}
use Rattle.rebuild.proofs.PlanLaws.{copy-small, length-by_variable}
use Rattle.rebuild.specs.Moved.{advanced, copy_variable}
use Rattle.rebuild.specs.Planned.{marked}
use Rattle.aig_graph.proofs.PlacesLaws.{count-le}
use Rattle.aig_graph.proofs.TableLaws.{entry, length-table, table-end, table-none}
use Rattle.aig_graph.specs.Marking.{has}
use Rattle.rebuild.proofs.numbers.advanced_literals.Goals as goal

pub loop-latch-init : goal.loop-latch-init
loop-latch-init c =
    let k = c.args.marks.now in
    let m = marked k in
    let g = k.circuit.now.aig in
    record {
      room = omega (arith, c.in_ok-literals.ensures.room, length-by_variable g (has k.set.now) c.as_slice-members.result.now (c.as_slice-members.ensures.value ∙ k.members_are));
      within = omega arith;
      filled = c.in_ok-literals.ensures.none ∙ sym (table-none (first_latch g) (advanced m));
    }

pub renamed-requires-clause-known : goal.renamed-requires-clause-known
renamed-requires-clause-known c =
    let k = c.args.marks.now in
    let m = marked k in
    let g = k.circuit.now.aig in
    let there : slice_get g.latches c.loop-latch.latch-index ≡ Some c.latch-item.result =
    latch-there g c.aig.result.now c.latches-latches.result.now c.loop-latch.latch-index c.latch-item.result c.latches-latches.ensures.value c.aig.ensures c.loop-latch-test.true c.latch-item.is in
    k.graph.latches c.loop-latch.latch-index c.latch-item.result there

pub push_reserved-requires : goal.push_reserved-requires
push_reserved-requires c =
    let k = c.args.marks.now in
    let m = marked k in
    let g = k.circuit.now.aig in
    omega (arith, c.loop-latch-test.true, ap (λ (xs : List Latch). length xs) (c.latches-latches.ensures.value ∙ ap (λ (h : Graph). h.latches) c.aig.ensures), ap length c.loop-latch.invariant.filled, length-table (first_latch g) c.loop-latch.latch-index (advanced m), c.loop-latch.invariant.room)

pub loop-latch-preserved : goal.loop-latch-preserved
loop-latch-preserved c =
    let k = c.args.marks.now in
    let m = marked k in
    let g = k.circuit.now.aig in
    let there : slice_get g.latches c.loop-latch.latch-index ≡ Some c.latch-item.result =
    latch-there g c.aig.result.now c.latches-latches.result.now c.loop-latch.latch-index c.latch-item.result c.latches-latches.ensures.value c.aig.ensures c.loop-latch-test.true c.latch-item.is in
    record {
      room = omega (arith, c.loop-latch.invariant.room, c.push_reserved.ensures.capacity);
      within = omega (arith, c.loop-latch-test.true, ap (λ (xs : List Latch). length xs) (c.latches-latches.ensures.value ∙ ap (λ (h : Graph). h.latches) c.aig.ensures));
      filled = entry (first_latch g) c.loop-latch.latch-index (advanced m) c.loop-latch.literals.items c.push_reserved.new.self.items c.renamed.result c.loop-latch.invariant.filled c.push_reserved.ensures.items
          (c.renamed.ensures ∙ sym (advanced-latch m k.passable c.loop-latch.latch-index c.latch-item.result there));
    }

pub loop-k-init : goal.loop-k-init
loop-k-init c =
    let k = c.args.marks.now in
    let m = marked k in
    let g = k.circuit.now.aig in
    let n : ℕ = length c.latches-latches.result.now in
    record {
      room = c.loop-latch.invariant.room;
      from = omega (arith, ap (λ (xs : List Latch). length xs) (c.latches-latches.ensures.value ∙ ap (λ (h : Graph). h.latches) c.aig.ensures));
      within = omega (arith, ap (λ (xs : List Latch). length xs) (c.latches-latches.ensures.value ∙ ap (λ (h : Graph). h.latches) c.aig.ensures));
      copy_is = omega (arith, c.requires.start, no-members-before m k.passable (first_latch g + n) (omega (arith, ap (λ (xs : List Latch). length xs) (c.latches-latches.ensures.value ∙ ap (λ (h : Graph). h.latches) c.aig.ensures))));
      filled = table-end (first_latch g) c.loop-latch.latch-index n (advanced m) c.loop-latch.literals.items (omega (arith, ap (λ (xs : List Latch). length xs) (c.latches-latches.ensures.value ∙ ap (λ (h : Graph). h.latches) c.aig.ensures), c.loop-latch.invariant.within)) (omega (arith, c.loop-latch-test.false)) c.loop-latch.invariant.filled;
    }

pub copy_of-requires : goal.copy_of-requires
copy_of-requires c =
    let k = c.args.marks.now in
    let m = marked k in
    let g = k.circuit.now.aig in
    let v : ℕ = first_latch g + c.loop-k.k in
    let mark : Bool = get_or c.as_slice-members.result.now c.loop-k.k false in
    let member : has k.set.now v ≡ mark = member-mark m k.passable c.as_slice-members.result.now c.loop-k.k (c.as_slice-members.ensures.value ∙ k.members_are) (omega (arith, c.loop-k-test.true)) in
    λ marked_so. omega (arith, c.loop-k.invariant.copy_is, copy_variable-is m v, copy-small m c.requires.room v (omega (arith, c.loop-k-test.true, length-by_variable g (has k.set.now) c.as_slice-members.result.now (c.as_slice-members.ensures.value ∙ k.members_are))) (member ∙ marked_so))

pub push_reserved-requires-in-loop-k : goal.push_reserved-requires-in-loop-k
push_reserved-requires-in-loop-k c =
    let k = c.args.marks.now in
    let m = marked k in
    let g = k.circuit.now.aig in
    omega (arith, c.loop-k-test.true, length-by_variable g (has k.set.now) c.as_slice-members.result.now (c.as_slice-members.ensures.value ∙ k.members_are), ap length c.loop-k.invariant.filled, length-table (first_latch g) c.loop-k.k (advanced m), c.loop-k.invariant.room)

pub overflow_add-copy : goal.overflow_add-copy
overflow_add-copy c =
    let k = c.args.marks.now in
    let m = marked k in
    let g = k.circuit.now.aig in
    omega (arith, c.loop-k.invariant.copy_is, count-le (has k.set.now) (first_latch g + c.loop-k.k) (variables_end g) (omega (arith, c.loop-k-test.true, length-by_variable g (has k.set.now) c.as_slice-members.result.now (c.as_slice-members.ensures.value ∙ k.members_are))), c.requires.room, c.one_if-copy.ensures.small)

pub loop-k-preserved : goal.loop-k-preserved
loop-k-preserved c =
    let k = c.args.marks.now in
    let m = marked k in
    let g = k.circuit.now.aig in
    let v : ℕ = first_latch g + c.loop-k.k in
    let mark : Bool = get_or c.as_slice-members.result.now c.loop-k.k false in
    let member : has k.set.now v ≡ mark = member-mark m k.passable c.as_slice-members.result.now c.loop-k.k (c.as_slice-members.ensures.value ∙ k.members_are) (omega (arith, c.loop-k-test.true)) in
    let here : 2 * c.loop-k.copy ≡ 2 * copy_variable m v = omega (arith, c.loop-k.invariant.copy_is, copy_variable-is m v) in
    record {
      room = omega (arith, c.loop-k.invariant.room, c.push_reserved-in-loop-k.ensures.capacity);
      from = omega (arith, c.loop-k.invariant.from);
      within = omega (arith, c.loop-k-test.true, length-by_variable g (has k.set.now) c.as_slice-members.result.now (c.as_slice-members.ensures.value ∙ k.members_are));
      copy_is = omega (arith, c.loop-k.invariant.copy_is, c.one_if-copy.ensures.value, count-next (has k.set.now) (first_latch g) c.loop-k.k mark member);
      filled = entry (first_latch g) c.loop-k.k (advanced m) c.loop-k.literals.items c.push_reserved-in-loop-k.new.self.items c.copy_of.result c.loop-k.invariant.filled c.push_reserved-in-loop-k.ensures.items
          (advanced-gate m k.passable v c.copy_of.result mark (omega (arith, c.loop-k.invariant.from)) member (c.copy_of.ensures ∙ ap (λ (n : ℕ). cond mark n 0) here));
    }

pub returns : goal.returns
returns c =
    let k = c.args.marks.now in
    let m = marked k in
    let g = k.circuit.now.aig in
    table-end (first_latch g) c.loop-k.k (latches_and_gates g) (advanced m) c.loop-k.literals.items c.loop-k.invariant.within (omega (arith, length-by_variable g (has k.set.now) c.as_slice-members.result.now (c.as_slice-members.ensures.value ∙ k.members_are), c.loop-k-test.false)) c.loop-k.invariant.filled
