use Rattle.std.proofs.Common.{◌∙◌, ◌≡◌, ◌+◌, ◌<◌, ap, sym, arith, true, length, List, Vec, Global, ℕ, Some, slice_get, vec_capacity}
use Rattle.std.proofs.lemmas.List.{length-map}
use Rattle.aig_graph.proofs.KindLaws.{latch_at-first_latch}
use Rattle.aig_graph.specs.Graph.{Graph, first_gate, first_latch, latch_at, variables_end}
use Rattle.aig_graph.specs.declared.graph.Latch.{Latch}
use Rattle.rebuild.proofs.BuildLaws.{latch-there, places-at, staying-more, staying-none, staying-skip}
use Rattle.rebuild.specs.Moved.{is_latched, latch_for}
use Rattle.rebuild.specs.Planned.{planned}
use Rattle.aig_graph.proofs.PlacesLaws.{count-lt, length-places}
use Rattle.aig_graph.specs.Counting.{places}
use Rattle.rebuild.proofs.graph.push_staying.Goals as goal
use Rattle.rebuild.proofs.graph.push_staying.Goals.{then-is_latched, else-is_latched}

pub loop-k-init : goal.loop-k-init
loop-k-init c =
    let m = planned c.args.plan.now in
    record {
      made = places-at (is_latched m) (latch_for m) (first_latch m.circuit.aig) (first_latch m.circuit.aig + 0) c.args.latches.now.items (omega arith) (omega arith)
          (c.requires.none ∙ sym (staying-none m c.args.plan.now.marks.passable));
      within = omega arith;
      room = c.requires.room;
    }

pub is_latched-requires-clause-from : goal.is_latched-requires-clause-from
is_latched-requires-clause-from c =
    let k = c.args.plan.now.marks in
    omega (arith, k.first_is)

pub staying_latch-requires : goal.staying_latch-requires
staying_latch-requires c =
    let m = planned c.args.plan.now in
    let g = m.circuit.aig in
    let there : slice_get g.latches c.loop-k.k ≡ Some c.latch-item.result =
    latch-there g c.aig-aig.result.now c.latches-latch-items.result.now c.loop-k.k c.latch-item.result c.latches-latch-items.ensures.value c.aig-aig.ensures c.loop-k-test.true c.latch-item.is in
    let here : c.args.plan.now.marks.first + c.loop-k.k ≡ first_latch g + c.loop-k.k = ap (λ (n : ℕ). n + c.loop-k.k) c.args.plan.now.marks.first_is in
    ap (latch_at g) here ∙ latch_at-first_latch g c.loop-k.k ∙ there

pub push_reserved-requires : goal.push_reserved-requires
push_reserved-requires c =
    let m = planned c.args.plan.now in
    let g = m.circuit.aig in
    let v : ℕ = first_latch g + c.loop-k.k in
    let here : c.args.plan.now.marks.first + c.loop-k.k ≡ v = ap (λ (n : ℕ). n + c.loop-k.k) c.args.plan.now.marks.first_is in
    let kept : is_latched m v ≡ true = sym (c.is_latched.ensures ∙ ap (is_latched m) here) ∙ c.if-is_latched.true in
    let before : v < variables_end g = omega (arith, c.loop-k-test.true, ap (λ (xs : List Latch). length xs) (c.latches-latch-items.ensures.value ∙ ap (λ (h : Graph). h.latches) c.aig-aig.ensures)) in
    omega (
      arith,
      ap (λ (xs : List Latch). length xs) c.loop-k.invariant.made,
      length-map (places (is_latched m) v) (latch_for m),
      length-places (is_latched m) v,
      count-lt (is_latched m) v (variables_end g) before kept,
      c.loop-k.invariant.room,
    )

pub loop-k-preserved : goal.loop-k-preserved
loop-k-preserved c =
    let m = planned c.args.plan.now in
    let g = m.circuit.aig in
    let there : slice_get g.latches c.loop-k.k ≡ Some c.latch-item.result =
    latch-there g c.aig-aig.result.now c.latches-latch-items.result.now c.loop-k.k c.latch-item.result c.latches-latch-items.ensures.value c.aig-aig.ensures c.loop-k-test.true c.latch-item.is in
    let here : c.args.plan.now.marks.first + c.loop-k.k ≡ first_latch g + c.loop-k.k = ap (λ (n : ℕ). n + c.loop-k.k) c.args.plan.now.marks.first_is in
    let read : c.is_latched.result ≡ is_latched m (first_latch g + c.loop-k.k) = c.is_latched.ensures ∙ ap (is_latched m) here in
    record {
      made = elim c.if-is_latched.branch [
        | then-is_latched w ↦ staying-more m c.loop-k.k c.latch-item.result c.loop-k.latches.items c.if-is_latched.latches.items w.staying_latch.result there (sym read ∙ w.if-is_latched.true)
            c.loop-k.invariant.made (ap (λ (v : Vec Latch Global). v.items) w.latches-is ∙ w.push_reserved.ensures.items) w.staying_latch.ensures
        | else-is_latched w ↦ ap (λ (v : Vec Latch Global). v.items) w.latches-is ∙ staying-skip m c.loop-k.k c.loop-k.latches.items (sym read ∙ w.if-is_latched.false) c.loop-k.invariant.made
      ];
      within = omega (arith, c.loop-k-test.true, ap (λ (xs : List Latch). length xs) (c.latches-latch-items.ensures.value ∙ ap (λ (h : Graph). h.latches) c.aig-aig.ensures));
      room = elim c.if-is_latched.branch [
        | then-is_latched w ↦ omega (arith, ap (λ (v : Vec Latch Global). vec_capacity v) w.latches-is, w.push_reserved.ensures.capacity, c.loop-k.invariant.room)
        | else-is_latched w ↦ omega (arith, ap (λ (v : Vec Latch Global). vec_capacity v) w.latches-is, c.loop-k.invariant.room)
      ];
    }

pub returns : goal.returns
returns c =
    let m = planned c.args.plan.now in
    let g = m.circuit.aig in
    places-at (is_latched m) (latch_for m) (first_latch g + c.loop-k.k) (first_gate g) c.loop-k.latches.items
    (omega (arith, c.loop-k.invariant.within)) (omega (arith, c.loop-k-test.false, ap (λ (xs : List Latch). length xs) (c.latches-latch-items.ensures.value ∙ ap (λ (h : Graph). h.latches) c.aig-aig.ensures))) c.loop-k.invariant.made
