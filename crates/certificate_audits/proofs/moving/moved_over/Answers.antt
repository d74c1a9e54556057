use Rattle.std.proofs.Common.{ℕ, List, ◌≡◌, ◌∙◌, ap, arith, subst, sym}
use Rattle.std.specs.List.Sorted.{IsStrictlyIncreasing}
use Rattle.std.proofs.lemmas.Result.{IfOk-weaker}
use Rattle.aig_graph.specs.Border.{border_size}
use Rattle.aig_graph.specs.Closed.{IsClosedSet}
use Rattle.aig_graph.specs.Move.{move_of}
use Rattle.aig_graph.proofs.GraphLaws.{room}
use Rattle.retimed_circuits.specs.Frames.{held_over, moved_over}
use Rattle.certificate_audits.proofs.moving.moved_over.Goals as goal

pub set_of-requires : goal.set_of-requires
set_of-requires c = subst (λ (s : List ℕ). IsStrictlyIncreasing s) (sym c.as_slice.ensures) c.requires.saves.1.confirmed.closed.rising

pub moved_stage-moved-requires-clause-in_range : goal.moved_stage-moved-requires-clause-in_range
moved_stage-moved-requires-clause-in_range c = c.requires.in_range

pub moved_stage-moved-requires-clause-closed : goal.moved_stage-moved-requires-clause-closed
moved_stage-moved-requires-clause-closed c =
    let stage = c.args.stage.now in
    subst (IsClosedSet stage.circuit.aig stage.keep) (sym (c.in_ok-set.ensures ∙ c.as_slice.ensures)) c.requires.saves.1.confirmed.closed

pub moved_stage-moved-requires-clause-room : goal.moved_stage-moved-requires-clause-room
moved_stage-moved-requires-clause-room c =
    let stage = c.args.stage.now in
    let same : border_size (move_of stage.circuit stage.keep c.in_ok-set.set) ≡ border_size (move_of stage.circuit stage.keep c.args.block.now.gates) =
    ap (λ (s : List ℕ). border_size (move_of stage.circuit stage.keep s)) (c.in_ok-set.ensures ∙ c.as_slice.ensures) in
    room stage.circuit.aig (border_size (move_of stage.circuit stage.keep c.in_ok-set.set)) c.known.ensures.graph
    (omega (arith, same, c.requires.saves.1.confirmed.counted, c.requires.saves.1.fewer))

pub returns-clause-circuit : goal.returns-clause-circuit
returns-clause-circuit c =
    let stage = c.args.stage.now in
    let same = c.in_ok-set.ensures ∙ c.as_slice.ensures in
    IfOk-weaker c.moved_stage-moved.result _ _ (λ after is. is ∙ ap (moved_over stage.keep stage.circuit) same) c.moved_stage-moved.ensures.circuit

pub returns-clause-keep : goal.returns-clause-keep
returns-clause-keep c =
    let stage = c.args.stage.now in
    let same = c.in_ok-set.ensures ∙ c.as_slice.ensures in
    IfOk-weaker c.moved_stage-moved.result _ _ (λ after is. is ∙ ap (held_over stage.keep stage.circuit) same) c.moved_stage-moved.ensures.keep
