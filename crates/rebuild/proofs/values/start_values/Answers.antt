use Rattle.std.proofs.Common.{◌∙◌, ◌≡◌, ◌+◌, ap, sym, arith, length, List, Some, slice_get}
use Rattle.aig_graph.proofs.FoldingLaws.{gate_at-first_gate}
use Rattle.aig_graph.specs.Graph.{Graph, first_gate, first_latch, gate_at, latches_and_gates}
use Rattle.aig_graph.specs.declared.graph.Gate.{Gate}
use Rattle.aig_graph.specs.declared.graph.Latch.{Latch}
use Rattle.rebuild.proofs.BuildLaws.{gate-there, latch-there}
use Rattle.rebuild.proofs.ValueLaws.{start-of_latch}
use Rattle.rebuild.specs.Starting.{member_start}
use Rattle.aig_graph.proofs.TableLaws.{entry, length-table, table-end, table-none, whole-table}
use Rattle.rebuild.proofs.values.start_values.Goals as goal

pub loop-latch-init : goal.loop-latch-init
loop-latch-init c =
    let k = c.args.plan.now.marks in
    let g = k.circuit.now.aig in
    let f = member_start g k.set.now in
    record {
      room = omega (arith, c.in_ok-values.ensures.exact, c.latches_and_gates.ensures.value, ap latches_and_gates c.aig-aig.ensures);
      within = omega arith;
      filled = c.in_ok-values.ensures.items ∙ sym (table-none (first_latch g) f);
    }

pub push_reserved-requires : goal.push_reserved-requires
push_reserved-requires c =
    let k = c.args.plan.now.marks in
    let g = k.circuit.now.aig in
    let f = member_start g k.set.now in
    omega (arith, c.loop-latch-test.true, ap (λ (xs : List Latch). length xs) (c.latches-latch-items.ensures.value ∙ ap (λ (h : Graph). h.latches) c.aig-aig.ensures), ap length c.loop-latch.invariant.filled, length-table (first_latch g) c.loop-latch.latch-index f, c.loop-latch.invariant.room)

pub loop-latch-preserved : goal.loop-latch-preserved
loop-latch-preserved c =
    let k = c.args.plan.now.marks in
    let g = k.circuit.now.aig in
    let f = member_start g k.set.now in
    let there : slice_get g.latches c.loop-latch.latch-index ≡ Some c.latch-item.result =
    latch-there g c.aig-aig.result.now c.latches-latch-items.result.now c.loop-latch.latch-index c.latch-item.result c.latches-latch-items.ensures.value c.aig-aig.ensures c.loop-latch-test.true c.latch-item.is in
    record {
      room = omega (arith, c.loop-latch.invariant.room, c.push_reserved.ensures.capacity);
      within = omega (arith, c.loop-latch-test.true, ap (λ (xs : List Latch). length xs) (c.latches-latch-items.ensures.value ∙ ap (λ (h : Graph). h.latches) c.aig-aig.ensures));
      filled = entry (first_latch g) c.loop-latch.latch-index f c.loop-latch.values.items c.push_reserved.new.self.items c.latch_value.result c.loop-latch.invariant.filled c.push_reserved.ensures.items
          (c.latch_value.ensures ∙ sym (start-of_latch g k.graph k.set.now c.loop-latch.latch-index c.latch-item.result there));
    }

pub loop-k-init : goal.loop-k-init
loop-k-init c =
    let k = c.args.plan.now.marks in
    let g = k.circuit.now.aig in
    let f = member_start g k.set.now in
    record {
      room = c.loop-latch.invariant.room;
      within = omega arith;
      filled = table-end (first_latch g) c.loop-latch.latch-index (length g.latches + 0) f c.loop-latch.values.items (omega (arith, c.loop-latch.invariant.within)) (omega (arith, ap (λ (xs : List Latch). length xs) (c.latches-latch-items.ensures.value ∙ ap (λ (h : Graph). h.latches) c.aig-aig.ensures), c.loop-latch-test.false)) c.loop-latch.invariant.filled;
    }

pub gate_value-value-requires-clause-so_far : goal.gate_value-value-requires-clause-so_far
gate_value-value-requires-clause-so_far c =
    let k = c.args.plan.now.marks in
    let g = k.circuit.now.aig in
    let f = member_start g k.set.now in
    whole-table (first_latch g) (length g.latches + c.loop-k.k) f c.as_slice.result.now c.loop-k.values.items c.as_slice.ensures.value c.loop-k.invariant.filled

pub gate_value-value-requires-clause-next : goal.gate_value-value-requires-clause-next
gate_value-value-requires-clause-next c =
    let k = c.args.plan.now.marks in
    let g = k.circuit.now.aig in
    let f = member_start g k.set.now in
    omega (arith, c.first_gate-start.ensures.value, ap first_gate c.aig-aig.ensures, ap length (c.as_slice.ensures.value ∙ c.loop-k.invariant.filled), length-table (first_latch g) (length g.latches + c.loop-k.k) f)

pub gate_value-value-requires-clause-there : goal.gate_value-value-requires-clause-there
gate_value-value-requires-clause-there c =
    let k = c.args.plan.now.marks in
    let g = k.circuit.now.aig in
    let f = member_start g k.set.now in
    let there : slice_get g.gates c.loop-k.k ≡ Some c.gate-item.result =
    gate-there g c.aig-aig.result.now c.gates-gate-items.result.now c.loop-k.k c.gate-item.result c.gates-gate-items.ensures.value c.aig-aig.ensures c.loop-k-test.true c.gate-item.is in
    ap (gate_at g) (omega (arith, c.first_gate-start.ensures.value, ap first_gate c.aig-aig.ensures)) ∙ gate_at-first_gate g c.loop-k.k ∙ there

pub push_reserved-requires-in-loop-k : goal.push_reserved-requires-in-loop-k
push_reserved-requires-in-loop-k c =
    let k = c.args.plan.now.marks in
    let g = k.circuit.now.aig in
    let f = member_start g k.set.now in
    omega (arith, c.loop-k-test.true, ap (λ (xs : List Gate). length xs) (c.gates-gate-items.ensures.value ∙ ap (λ (h : Graph). h.gates) c.aig-aig.ensures), ap length c.loop-k.invariant.filled, length-table (first_latch g) (length g.latches + c.loop-k.k) f, c.loop-k.invariant.room)

pub loop-k-preserved : goal.loop-k-preserved
loop-k-preserved c =
    let k = c.args.plan.now.marks in
    let g = k.circuit.now.aig in
    let f = member_start g k.set.now in
    let pushed = entry (first_latch g) (length g.latches + c.loop-k.k) f c.loop-k.values.items c.push_reserved-in-loop-k.new.self.items c.gate_value-value.result c.loop-k.invariant.filled c.push_reserved-in-loop-k.ensures.items
    (c.gate_value-value.ensures ∙ ap f (omega (arith, c.first_gate-start.ensures.value, ap first_gate c.aig-aig.ensures))) in
    record {
      room = omega (arith, c.loop-k.invariant.room, c.push_reserved-in-loop-k.ensures.capacity);
      within = omega (arith, c.loop-k-test.true, ap (λ (xs : List Gate). length xs) (c.gates-gate-items.ensures.value ∙ ap (λ (h : Graph). h.gates) c.aig-aig.ensures));
      filled = table-end (first_latch g) (length g.latches + c.loop-k.k + 1) (length g.latches + (c.loop-k.k + 1)) f c.push_reserved-in-loop-k.new.self.items (omega arith) (omega arith) pushed;
    }

pub returns : goal.returns
returns c =
    let k = c.args.plan.now.marks in
    let g = k.circuit.now.aig in
    let f = member_start g k.set.now in
    table-end (first_latch g) (length g.latches + c.loop-k.k) (latches_and_gates g) f c.loop-k.values.items (omega (arith, c.loop-k.invariant.within)) (omega (arith, ap (λ (xs : List Gate). length xs) (c.gates-gate-items.ensures.value ∙ ap (λ (h : Graph). h.gates) c.aig-aig.ensures), c.loop-k-test.false)) c.loop-k.invariant.filled
