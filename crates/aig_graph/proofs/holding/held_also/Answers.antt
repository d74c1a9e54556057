use Rattle.std.proofs.Common.{ℕ, ◌≡◌, ◌+◌, ◌∙◌, ◌||◌, List, Bool, length, ap, arith, sym, subst}
use Rattle.std.specs.List.Sorted.{IsStrictlyIncreasing}
use Rattle.aig_graph.specs.Graph.{Graph}
use Rattle.aig_graph.specs.Keep.{held_also}
use Rattle.aig_graph.specs.declared.graph.Latch.{Latch}
use Rattle.aig_graph.proofs.HoldingLaws.{empty-none}
use Rattle.aig_graph.proofs.PositionLaws.{held_also-some, places-rising}
use Rattle.aig_graph.specs.Counting.{places}
use Rattle.aig_graph.specs.Marking.{has}
use Rattle.aig_graph.proofs.MarkingLaws.{AreAllMarks-table}
use Rattle.aig_graph.proofs.TableLaws.{length-table}
use Rattle.aig_graph.proofs.holding.held_also.Goals as goal

pub returns-then-is_empty : goal.returns-then-is_empty
returns-then-is_empty c =
    sym (ap (λ (xs : List ℕ). held_also c.args.keep xs c.args.circuit.now) (empty-none c.args.positions.now (sym c.is_empty.ensures ∙ c.if-is_empty.true)))

pub marked_variables-requires : goal.marked_variables-requires
marked_variables-requires c =
    let p : ℕ → Bool = λ j. has c.positions.result.now j || has c.args.positions.now j in
    let many : length c.latches-latches.result.now ≡ length c.args.circuit.now.aig.latches =
    ap (λ (xs : List Latch). length xs) (c.latches-latches.ensures.value ∙ ap (λ (g : Graph). g.latches) c.aig.ensures.value) in
    omega (arith, ap (λ (xs : List Bool). length xs) (c.as_slice.ensures.value ∙ c.in_ok-marks.ensures), length-table 0 (length c.latches-latches.result.now) p, many, c.aig.ensures.graph.small)

pub new-requires : goal.new-requires
new-requires c =
    let n : ℕ = length c.as_slice.result.now in
    let p : ℕ → Bool = λ j. has c.positions.result.now j || has c.args.positions.now j in
    let filled = c.as_slice.ensures.value ∙ c.in_ok-marks.ensures in
    subst IsStrictlyIncreasing (sym (c.in_ok-all.ensures p (AreAllMarks-table 0 (length c.latches-latches.result.now) c.as_slice.result.now p filled (λ v h. absurd (omega arith))))) (places-rising p (0 + n))

pub returns : goal.returns
returns c =
    let p : ℕ → Bool = λ j. has c.positions.result.now j || has c.args.positions.now j in
    let filled = c.as_slice.ensures.value ∙ c.in_ok-marks.ensures in
    let many : length c.latches-latches.result.now ≡ length c.args.circuit.now.aig.latches =
    ap (λ (xs : List Latch). length xs) (c.latches-latches.ensures.value ∙ ap (λ (g : Graph). g.latches) c.aig.ensures.value) in
    let long : 0 + length c.as_slice.result.now ≡ length c.args.circuit.now.aig.latches =
    omega (arith, ap (λ (xs : List Bool). length xs) filled, length-table 0 (length c.latches-latches.result.now) p, many) in
    c.new.ensures
    ∙ c.in_ok-all.ensures p (AreAllMarks-table 0 (length c.latches-latches.result.now) c.as_slice.result.now p filled (λ v h. absurd (omega arith)))
    ∙ ap (places p) long
    ∙ ap (λ (held : List ℕ). places (λ j. has held j || has c.args.positions.now j) (length c.args.circuit.now.aig.latches)) c.positions.ensures.value
    ∙ sym (held_also-some c.args.keep c.args.positions.now c.args.circuit.now (sym c.is_empty.ensures ∙ c.if-is_empty.false))
