use Rattle.std.proofs.Common.{ℕ, ◌≡◌, ◌∙◌, ◌+◌, ◌-◌, [], List, Bool, length, sym, ap, subst, suc, arith}
use Rattle.std.specs.BinaryHeap.{heap_items}
use Rattle.std.specs.declared.cmp.Reverse.{Reverse}
use Rattle.std.proofs.lemmas.List.{nil_from_length, length_push}
use Rattle.ascii_file.specs.order.Order.{IsNextGate, order_from}
use Rattle.ascii_file.specs.order.Ready.{IsState}
use Rattle.ascii_file.proofs.GateOrderLaws.{follows_where_true, order_from-zero}
use Rattle.ascii_file.proofs.ReadyLaws.{state_start, state_then, popped_follows, popped_next, rest_then, rest_none, unmarked}
use Rattle.ascii_file.proofs.order.sorted.Goals as goal

pub loop-place-init : goal.loop-place-init
loop-place-init c =
    let gates = c.args.gates.now in
    let n : ℕ = length gates in
    rw c.in_ok-order.ensures.items (record {
      size = omega arith;
      state = state_start gates c.as_mut_slice-marks.result.now (heap_items c.in_ok-ready.ready)
          (omega (arith, c.as_mut_slice-marks.ensures.len, c.in_ok-marks.ensures.len))
          (unmarked n c.as_mut_slice-marks.result.now (c.as_mut_slice-marks.ensures.value ∙ c.in_ok-marks.ensures.items_if_clones_equal (λ y e. e)))
          c.in_ok-ready.ensures.heap c.in_ok-ready.ensures.each;
      rest = let all : n - 0 ≡ n = omega arith in ap (λ (k : ℕ). order_from gates [] k) all;
    })

pub returns-in_default : goal.returns-in_default
returns-in_default c =
    let gates = c.args.gates.now in
    let n : ℕ = length gates in
    let k : ℕ = c.loop-place.place in
    let ready = heap_items c.loop-place.ready in
    let empty : ready ≡ [] = nil_from_length ready (omega (arith, c.in_default.ensures.none, c.loop-place.ready.data.ok.0)) in
    let state : IsState gates c.loop-place.order.items c.loop-place.marks [] =
    subst (IsState gates c.loop-place.order.items c.loop-place.marks) empty c.loop-place.invariant.state in
    let more : n - k ≡ suc (n - (k + 1)) = omega (arith, c.loop-place-test.true) in
    sym (rest_none gates c.loop-place.order.items c.loop-place.marks (n - (k + 1)) state)
    ∙ ap (λ (i : ℕ). order_from gates c.loop-place.order.items i) (sym more) ∙ c.loop-place.invariant.rest

pub bounds-marks-gate : goal.bounds-marks-gate
bounds-marks-gate c =
    let gates = c.args.gates.now in
    let state = c.loop-place.invariant.state in
    let f = follows_where_true gates c.loop-place.order.items c.in-Some.field-0.0
    (popped_follows gates c.loop-place.order.items c.loop-place.marks (heap_items c.loop-place.ready) (heap_items c.pop.new.self) c.in-Some.field-0 state c.in-Some.ensures.permutation) in
    omega (arith, f.below, state.as_many)

pub release-requires-clause-place : goal.release-requires-clause-place
release-requires-clause-place c =
    let gates = c.args.gates.now in
    let state = c.loop-place.invariant.state in
    let f = follows_where_true gates c.loop-place.order.items c.in-Some.field-0.0
    (popped_follows gates c.loop-place.order.items c.loop-place.marks (heap_items c.loop-place.ready) (heap_items c.pop.new.self) c.in-Some.field-0 state c.in-Some.ensures.permutation) in
    f.below

pub release-requires-in-loop-place-clause-place : goal.release-requires-in-loop-place-clause-place
release-requires-in-loop-place-clause-place c =
    let gates = c.args.gates.now in
    let state = c.loop-place.invariant.state in
    let f = follows_where_true gates c.loop-place.order.items c.in-Some.field-0.0
    (popped_follows gates c.loop-place.order.items c.loop-place.marks (heap_items c.loop-place.ready) (heap_items c.pop.new.self) c.in-Some.field-0 state c.in-Some.ensures.permutation) in
    f.below

pub loop-place-preserved : goal.loop-place-preserved
loop-place-preserved c =
    let gates = c.args.gates.now in
    let n : ℕ = length gates in
    let k : ℕ = c.loop-place.place in
    let placed : List ℕ = c.loop-place.order.items in
    let marks : List Bool = c.loop-place.marks in
    let ready = heap_items c.loop-place.ready in
    let x : Reverse ℕ = c.in-Some.field-0 in
    let state = c.loop-place.invariant.state in
    let moved = c.in-Some.ensures.permutation in
    let pop = c.in-Some.ensures.heap_order state.heap in
    let next : IsNextGate gates placed x.0 = popped_next gates placed marks ready (heap_items c.pop.new.self) x state moved pop.1 in
    let more : n - k ≡ suc (n - (k + 1)) = omega (arith, c.loop-place-test.true) in
    rw c.in_ok-push.ensures.items (record {
      size = omega (arith, c.loop-place.invariant.size, length_push placed x.0);
      state = state_then gates placed marks ready (heap_items c.pop.new.self) (heap_items c.release.new.ready) (heap_items c.release-in-loop-place.new.ready) x state moved
          c.in_ok-release.ensures.each c.in_ok-release-2.ensures.each c.in_ok-release-2.ensures.heap;
      rest = sym (rest_then gates placed (n - (k + 1)) x.0 next) ∙ ap (λ (i : ℕ). order_from gates placed i) (sym more) ∙ c.loop-place.invariant.rest;
    })

pub returns : goal.returns
returns c =
    let gates = c.args.gates.now in
    let done : length gates - c.loop-place.place ≡ 0 = omega (arith, c.loop-place-test.false) in
    sym (order_from-zero gates c.loop-place.order.items) ∙ ap (λ (i : ℕ). order_from gates c.loop-place.order.items i) (sym done) ∙ c.loop-place.invariant.rest
