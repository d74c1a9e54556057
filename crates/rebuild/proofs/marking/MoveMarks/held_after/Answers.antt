use Rattle.std.proofs.Common.{◌≡◌, ◌<◌, ◌∙◌, ap, arith, sym, subst, length, get_or, map, [], List, ℕ}
use Rattle.std.specs.List.{All}
use Rattle.std.specs.List.Sorted.{IsStrictlyIncreasing}
use Rattle.aig_graph.specs.Graph.{first_latch}
use Rattle.aig_graph.specs.Move.{move_of}
use Rattle.aig_graph.proofs.HoldingLaws.{empty-none}
use Rattle.rebuild.proofs.BorderLaws.{closed-passable}
use Rattle.rebuild.proofs.HeldLaws.{moved_held-below, moved_held-rising}
use Rattle.rebuild.proofs.PlanLaws.{all-latched, length-by_variable}
use Rattle.rebuild.specs.Moved.{is_latched, moved_graph, moved_held, moved_position}
use Rattle.aig_graph.specs.Marking.{AreAllMarks}
use Rattle.rebuild.proofs.marking.MoveMarks.held_after.Goals as goal

pub returns-then-is_empty-clause-value : goal.returns-then-is_empty-clause-value
returns-then-is_empty-clause-value c =
    let m = move_of c.args.circuit.now c.args.keep.now c.args.set.now in
    let nobody : c.args.keep.now ≡ [] = sym c.positions-positions.ensures.value ∙ empty-none c.positions-positions.result.now (sym c.is_empty.ensures ∙ c.if-is_empty.true) in
    c.none.ensures ∙ sym (ap (map (moved_position m)) nobody)

pub ranks_of-requires-clause-within : goal.ranks_of-requires-clause-within
ranks_of-requires-clause-within c =
    let m = move_of c.args.circuit.now c.args.keep.now c.args.set.now in
    let long = length-by_variable m.circuit.aig (is_latched m) c.as_slice.result.now (c.as_slice.ensures.value ∙ c.requires.marked.latched) in
    subst (λ (js : List ℕ). All (λ (j : ℕ). j < length c.as_slice.result.now) js) (sym c.positions-positions.ensures.value)
    (λ k d h. let within : get_or c.args.keep.now k d < length m.circuit.aig.latches = c.requires.in_range k d h in omega (arith, long, within))

pub new-requires : goal.new-requires
new-requires c =
    let m = move_of c.args.circuit.now c.args.keep.now c.args.set.now in
    let all : AreAllMarks (first_latch m.circuit.aig) c.as_slice.result.now (is_latched m) =
    all-latched m (closed-passable m c.requires.closed.closed) c.as_slice.result.now (c.as_slice.ensures.value ∙ c.requires.marked.latched) in
    let ranks : c.in_ok-ranks.ranks.items ≡ moved_held m =
    c.in_ok-ranks.ensures (first_latch m.circuit.aig) (is_latched m) all ∙ ap (map (moved_position m)) c.positions-positions.ensures.value in
    subst IsStrictlyIncreasing (sym ranks) (moved_held-rising m c.requires.in_range (subst IsStrictlyIncreasing c.positions-positions.ensures.value c.positions-positions.ensures.rising))

pub returns-clause-value : goal.returns-clause-value
returns-clause-value c =
    let m = move_of c.args.circuit.now c.args.keep.now c.args.set.now in
    let all : AreAllMarks (first_latch m.circuit.aig) c.as_slice.result.now (is_latched m) =
    all-latched m (closed-passable m c.requires.closed.closed) c.as_slice.result.now (c.as_slice.ensures.value ∙ c.requires.marked.latched) in
    c.new.ensures ∙ c.in_ok-ranks.ensures (first_latch m.circuit.aig) (is_latched m) all ∙ ap (map (moved_position m)) c.positions-positions.ensures.value

pub returns-clause-in_range : goal.returns-clause-in_range
returns-clause-in_range c =
    let m = move_of c.args.circuit.now c.args.keep.now c.args.set.now in
    let all : AreAllMarks (first_latch m.circuit.aig) c.as_slice.result.now (is_latched m) =
    all-latched m (closed-passable m c.requires.closed.closed) c.as_slice.result.now (c.as_slice.ensures.value ∙ c.requires.marked.latched) in
    let after : c.new.result ≡ moved_held m =
    c.new.ensures ∙ c.in_ok-ranks.ensures (first_latch m.circuit.aig) (is_latched m) all ∙ ap (map (moved_position m)) c.positions-positions.ensures.value in
    subst (λ (js : List ℕ). All (λ (j : ℕ). j < length (moved_graph m).latches) js) (sym after) (moved_held-below m c.requires.in_range)
