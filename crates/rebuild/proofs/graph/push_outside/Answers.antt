use Rattle.std.proofs.Common.{◌∙◌, ◌≡◌, ◌+◌, ap, sym, arith, length, List, Vec, Global, ℕ, Some, slice_get, vec_capacity}
use Rattle.std.proofs.lemmas.List.{length-map}
use Rattle.aig_graph.specs.Graph.{Graph, first_gate, variables_end}
use Rattle.aig_graph.specs.declared.graph.Gate.{Gate}
use Rattle.rebuild.proofs.BuildLaws.{fan-ins_within, gate-there, no-outside, outside-more, outside-skip, places-at}
use Rattle.rebuild.specs.Moved.{gate_for, is_outside}
use Rattle.rebuild.specs.Planned.{planned}
use Rattle.aig_graph.specs.Marking.{has}
use Rattle.rebuild.proofs.NumberLaws.{outside-few}
use Rattle.aig_graph.proofs.PlacesLaws.{length-places}
use Rattle.aig_graph.specs.Counting.{places}
use Rattle.rebuild.proofs.graph.push_outside.Goals as goal
use Rattle.rebuild.proofs.graph.push_outside.Goals.{then-not-has, else-not-has}

pub loop-k-init : goal.loop-k-init
loop-k-init c =
    let m = planned c.args.plan.now in
    record {
      made = places-at (is_outside m) (gate_for m) (first_gate m.circuit.aig) (first_gate m.circuit.aig + 0) c.args.gates.now.items (omega arith) (omega arith) (c.requires.none ∙ sym (no-outside m));
      within = omega arith;
      room = c.requires.room;
    }

pub has-requires-clause-from : goal.has-requires-clause-from
has-requires-clause-from c = omega (arith, c.first_gate-start.ensures.value, ap first_gate c.aig-aig.ensures)

pub gate-requires-clause-first : goal.gate-requires-clause-first
gate-requires-clause-first c =
    let k = c.args.plan.now.marks in
    (fan-ins_within k.circuit.now.aig k.graph c.loop-k.k c.gate-item.result
    (gate-there k.circuit.now.aig c.aig-aig.result.now c.gates-gate-items.result.now c.loop-k.k c.gate-item.result c.gates-gate-items.ensures.value c.aig-aig.ensures c.loop-k-test.true c.gate-item.is)).0

pub gate-requires-clause-second : goal.gate-requires-clause-second
gate-requires-clause-second c =
    let k = c.args.plan.now.marks in
    (fan-ins_within k.circuit.now.aig k.graph c.loop-k.k c.gate-item.result
    (gate-there k.circuit.now.aig c.aig-aig.result.now c.gates-gate-items.result.now c.loop-k.k c.gate-item.result c.gates-gate-items.ensures.value c.aig-aig.ensures c.loop-k-test.true c.gate-item.is)).1

pub push_reserved-requires : goal.push_reserved-requires
push_reserved-requires c =
    let k = c.args.plan.now.marks in
    let m = planned c.args.plan.now in
    let v : ℕ = first_gate m.circuit.aig + c.loop-k.k in
    omega (
      arith,
      ap (λ (xs : List Gate). length xs) c.loop-k.invariant.made,
      length-map (places (is_outside m) v) (gate_for m),
      length-places (is_outside m) v,
      outside-few m k.passable c.loop-k.k,
      c.loop-k-test.true,
      ap (λ (xs : List Gate). length xs) (c.gates-gate-items.ensures.value ∙ ap (λ (h : Graph). h.gates) c.aig-aig.ensures),
      c.loop-k.invariant.room,
    )

pub loop-k-preserved : goal.loop-k-preserved
loop-k-preserved c =
    let m = planned c.args.plan.now in
    let g = m.circuit.aig in
    let there : slice_get g.gates c.loop-k.k ≡ Some c.gate-item.result =
    gate-there g c.aig-aig.result.now c.gates-gate-items.result.now c.loop-k.k c.gate-item.result c.gates-gate-items.ensures.value c.aig-aig.ensures c.loop-k-test.true c.gate-item.is in
    let here : c.first_gate-start.result + c.loop-k.k ≡ first_gate g + c.loop-k.k = ap (λ (n : ℕ). n + c.loop-k.k) (c.first_gate-start.ensures.value ∙ ap first_gate c.aig-aig.ensures) in
    let read : c.has.result ≡ has m.set (first_gate g + c.loop-k.k) = c.has.ensures ∙ ap (has m.set) here in
    record {
      made = elim c.if-not-has.branch [
        | then-not-has w ↦ outside-more m c.loop-k.k c.gate-item.result c.loop-k.gates.items c.if-not-has.gates.items w.gate.result there (sym read ∙ w.if-not-has.true)
            c.loop-k.invariant.made (ap (λ (v : Vec Gate Global). v.items) w.gates-is ∙ w.push_reserved.ensures.items) w.gate.ensures
        | else-not-has w ↦ ap (λ (v : Vec Gate Global). v.items) w.gates-is ∙ outside-skip m c.loop-k.k c.loop-k.gates.items (sym read ∙ w.if-not-has.false) c.loop-k.invariant.made
      ];
      within = omega (arith, c.loop-k-test.true, ap (λ (xs : List Gate). length xs) (c.gates-gate-items.ensures.value ∙ ap (λ (h : Graph). h.gates) c.aig-aig.ensures));
      room = elim c.if-not-has.branch [
        | then-not-has w ↦ omega (arith, ap (λ (v : Vec Gate Global). vec_capacity v) w.gates-is, w.push_reserved.ensures.capacity, c.loop-k.invariant.room)
        | else-not-has w ↦ omega (arith, ap (λ (v : Vec Gate Global). vec_capacity v) w.gates-is, c.loop-k.invariant.room)
      ];
    }

pub returns : goal.returns
returns c =
    let m = planned c.args.plan.now in
    let g = m.circuit.aig in
    places-at (is_outside m) (gate_for m) (first_gate g + c.loop-k.k) (variables_end g) c.loop-k.gates.items
    (omega (arith, c.loop-k.invariant.within)) (omega (arith, c.loop-k-test.false, ap (λ (xs : List Gate). length xs) (c.gates-gate-items.ensures.value ∙ ap (λ (h : Graph). h.gates) c.aig-aig.ensures))) c.loop-k.invariant.made
