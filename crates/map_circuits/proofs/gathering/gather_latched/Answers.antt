use Rattle.std.proofs.Common.{ℕ, ◌<◌, ◌≡◌, ◌+◌, ◌-◌, ◌∙◌, false, List, length, get_or, arith, ap, sym, subst}
use Rattle.aig_graph.specs.Graph.{Graph, first_latch, variables_end}
use Rattle.aig_graph.specs.declared.graph.Latch.{Latch}
use Rattle.aig_graph.specs.Move.{Move, move_of}
use Rattle.rebuild.specs.Moved.{is_latched}
use Rattle.rebuild.proofs.BorderLaws.{closed-passable}
use Rattle.rebuild.proofs.PlanLaws.{all-latched, length-by_variable}
use Rattle.aig_graph.specs.Marking.{AreAllMarks}
use Rattle.map_circuits.specs.Gathering.{IsGathered}
use Rattle.map_circuits.proofs.FollowingLaws.{at-place, member-at}
use Rattle.map_circuits.proofs.GatheringLaws.{gathered-end, gathered-first, gathered-member, gathered-other, member-within}
use Rattle.map_circuits.proofs.gathering.gather_latched.Goals as goal
use Rattle.map_circuits.proofs.gathering.gather_latched.Goals.{then-marks-place, else-marks-place}

pub gather_marked-kept-requires-clause-marks : goal.gather_marked-kept-requires-clause-marks
gather_marked-kept-requires-clause-marks c =
    let m : Move = move_of c.args.circuit.now c.args.keep.now c.args.set.now in
    let latches = c.latches.ensures.value ∙ ap (λ (h : Graph). h.latches) c.aig-aig.ensures.value in
    omega (arith, ap (λ (xs : List Latch). length xs) latches, length-by_variable c.args.circuit.now.aig (is_latched m) c.args.marks.now c.requires.marked)

pub gather_marked-kept-requires-clause-entries : goal.gather_marked-kept-requires-clause-entries
gather_marked-kept-requires-clause-entries c =
    let m : Move = move_of c.args.circuit.now c.args.keep.now c.args.set.now in
    omega (arith, length-by_variable c.args.circuit.now.aig (is_latched m) c.args.marks.now c.requires.marked, c.requires.long)

pub loop-var-init : goal.loop-var-init
loop-var-init c =
    let m : Move = move_of c.args.circuit.now c.args.keep.now c.args.set.now in
    let g : Graph = c.args.circuit.now.aig in
    let latches = c.latches.ensures.value ∙ ap (λ (h : Graph). h.latches) c.aig-aig.ensures.value in
    let all : AreAllMarks (first_latch g) c.args.marks.now (is_latched m) = all-latched m (closed-passable m c.requires.closed.closed) c.args.marks.now c.requires.marked in
    gathered-first m c.requires.closed c.args.entries.now (first_latch g + length c.latches.result.now) c.gather_marked-kept.result c.gather_marked-kept.new.entries
    (omega (arith, ap (λ (xs : List Latch). length xs) latches)) (c.gather_marked-kept.ensures.gathered (first_latch g) (is_latched m) all)

pub overflow_sub-place : goal.overflow_sub-place
overflow_sub-place c =
    let m : Move = move_of c.args.circuit.now c.args.keep.now c.args.set.now in
    let v : ℕ = get_or c.vars-var-items.result.now c.loop-var.var-index 0 in
    let within = member-within m c.requires.closed c.args.entries.now v (member-at c.args.set.now c.vars-var-items.result.now c.loop-var.var-index c.vars-var-items.ensures.value c.loop-var-test.true) in
    omega (arith, within.0, c.first_latch-first.ensures.value ∙ ap first_latch c.aig-aig.ensures.value)

pub bounds-marks-place : goal.bounds-marks-place
bounds-marks-place c =
    let m : Move = move_of c.args.circuit.now c.args.keep.now c.args.set.now in
    let v : ℕ = get_or c.vars-var-items.result.now c.loop-var.var-index 0 in
    let within = member-within m c.requires.closed c.args.entries.now v (member-at c.args.set.now c.vars-var-items.result.now c.loop-var.var-index c.vars-var-items.ensures.value c.loop-var-test.true) in
    omega (arith, within.0, within.1, c.first_latch-first.ensures.value ∙ ap first_latch c.aig-aig.ensures.value, length-by_variable c.args.circuit.now.aig (is_latched m) c.args.marks.now c.requires.marked)

pub bounds-entries-place : goal.bounds-entries-place
bounds-entries-place c =
    let m : Move = move_of c.args.circuit.now c.args.keep.now c.args.set.now in
    let v : ℕ = get_or c.vars-var-items.result.now c.loop-var.var-index 0 in
    let within = member-within m c.requires.closed c.args.entries.now v (member-at c.args.set.now c.vars-var-items.result.now c.loop-var.var-index c.vars-var-items.ensures.value c.loop-var-test.true) in
    omega (arith, within.0, within.1, c.first_latch-first.ensures.value ∙ ap first_latch c.aig-aig.ensures.value, c.requires.long, c.loop-var.invariant.long)

pub bounds-entries-kept : goal.bounds-entries-kept
bounds-entries-kept c =
    let m : Move = move_of c.args.circuit.now c.args.keep.now c.args.set.now in
    let set : List ℕ = c.args.set.now in
    let k : ℕ = c.loop-var.var-index in
    let vars : List ℕ = c.vars-var-items.result.now in
    let v : ℕ = get_or vars k 0 in
    let within = member-within m c.requires.closed c.args.entries.now v (member-at set vars k c.vars-var-items.ensures.value c.loop-var-test.true) in
    let here : get_or set k (variables_end c.args.circuit.now.aig) ≡ v = at-place set vars k (variables_end c.args.circuit.now.aig) c.vars-var-items.ensures.value c.loop-var-test.true in
    omega (arith, within.0, within.1, here, c.requires.long, c.loop-var.invariant.long, c.loop-var.invariant.few)

pub loop-var-preserved : goal.loop-var-preserved
loop-var-preserved c =
    let m : Move = move_of c.args.circuit.now c.args.keep.now c.args.set.now in
    let g : Graph = c.args.circuit.now.aig in
    let old : List ℕ = c.args.entries.now in
    let xs : List ℕ = c.loop-var.entries in
    let kept : ℕ = c.loop-var.kept in
    let k : ℕ = c.loop-var.var-index in
    let vars : List ℕ = c.vars-var-items.result.now in
    let v : ℕ = get_or vars k 0 in
    let same : vars ≡ c.args.set.now = c.vars-var-items.ensures.value in
    let start : c.first_latch-first.result ≡ first_latch g = c.first_latch-first.ensures.value ∙ ap first_latch c.aig-aig.ensures.value in
    let within = member-within m c.requires.closed old v (member-at c.args.set.now vars k same c.loop-var-test.true) in
    let all : AreAllMarks (first_latch g) c.args.marks.now (is_latched m) = all-latched m (closed-passable m c.requires.closed.closed) c.args.marks.now c.requires.marked in
    let inside : v - first_latch g < length c.args.marks.now = omega (arith, within.0, within.1, length-by_variable g (is_latched m) c.args.marks.now c.requires.marked) in
    let mark : get_or c.args.marks.now (v - c.first_latch-first.result) false ≡ is_latched m v =
    ap (λ (n : ℕ). get_or c.args.marks.now (v - n) false) start ∙ all.each (v - first_latch g) inside ∙ ap (is_latched m) (omega (arith, within.0)) in
    elim c.if-marks-place.branch [
      | then-marks-place w ↦ gathered-member m c.requires.closed old vars k same c.loop-var-test.true c.first_latch-first.result kept c.if-marks-place.kept xs c.if-marks-place.entries w.index-entries-place.result start
          c.loop-var.invariant (omega (arith, c.requires.long, c.loop-var.invariant.long)) (sym mark ∙ w.if-marks-place.true) w.index-entries-place.is w.entries-is w.kept-is
      | else-marks-place w ↦ (
          let P : List ℕ → Type 0 = λ ys. IsGathered (first_latch g) (is_latched m) (get_or m.set (k + 1) (variables_end g)) old ys kept in
          let Q : ℕ → Type 0 = λ n. IsGathered (first_latch g) (is_latched m) (get_or m.set (k + 1) (variables_end g)) old c.if-marks-place.entries n in
          subst Q (sym w.kept-is) (subst P (sym w.entries-is) (gathered-other m c.requires.closed old vars k same c.loop-var-test.true kept xs c.loop-var.invariant (sym mark ∙ w.if-marks-place.false))))
    ]

pub returns : goal.returns
returns c =
    let m : Move = move_of c.args.circuit.now c.args.keep.now c.args.set.now in
    gathered-end m c.requires.closed c.args.entries.now c.vars-var-items.result.now c.loop-var.var-index c.loop-var.kept c.loop-var.entries c.vars-var-items.ensures.value c.loop-var-test.false c.loop-var.invariant
