use Rattle.std.proofs.Common.{ℕ, List, ◌+◌, ◌-◌, ◌≡◌, ◌<◌, arith, ap, length, sym, subst}
use Rattle.std.specs.List.{All}
use Rattle.std.proofs.lemmas.Result.{IfOk-from_err}
use Rattle.aig_graph.specs.Border.{border_size}
use Rattle.aig_graph.specs.Circuits.{Netlist}
use Rattle.aig_graph.specs.Move.{move_of}
use Rattle.aig_graph.proofs.GraphLaws.{room}
use Rattle.retimed_circuits.specs.Frames.{held_over, moved_over}
use Rattle.clean.specs.Normalised.{AreLowNormalised, IsNormalised}
use Rattle.clean.proofs.FrameLaws.{copies-within, normalised-moved}
use Rattle.frame_runs.specs.Following.{ComesWhole}
use Rattle.frame_runs.proofs.FollowingLaws.{moved-followed}
use Rattle.frame_runs.proofs.frame.moved_over.Goals as goal

pub settled-requires-clause-in_range : goal.settled-requires-clause-in_range
settled-requires-clause-in_range g c =
    let P : Netlist → Type 0 = λ d. All (λ (j : ℕ). j < length d.aig.latches) c.in_ok-held.held in
    subst P (sym c.in_ok-after.ensures.value) c.in_ok-held.ensures.in_range

pub settled-requires-clause-copies : goal.settled-requires-clause-copies
settled-requires-clause-copies g c =
    let m = move_of c.args.circuit.now c.args.keep.now c.args.set.now in
    omega (arith, copies-within m, ap (λ (xs : List ℕ). length xs) c.vars-copies.ensures.value, ap (λ (d : Netlist). length d.aig.gates) c.in_ok-after.ensures.value)

pub settled-requires-clause-normalised : goal.settled-requires-clause-normalised
settled-requires-clause-normalised g c =
    let before = c.args.circuit.now in
    let held = c.args.keep.now in
    let set = c.args.set.now in
    let m = move_of before held set in
    let after = moved_over held before set in
    let long : length c.vars-copies.result.now ≡ length set = ap (λ (xs : List ℕ). length xs) c.vars-copies.ensures.value in
    let first : ℕ = length after.aig.gates - length c.vars-copies.result.now in
    let ends : first + length set ≡ length after.aig.gates = omega (arith, copies-within m, long) in
    let P : List ℕ → Netlist → Type 0 = λ js d. AreLowNormalised d.aig (length d.aig.gates - length c.vars-copies.result.now) → IsNormalised js d in
    let moved : P (held_over held before set) after = λ lows.
    normalised-moved m first (record { graph = c.known.ensures.graph; netlist = c.known.ensures.netlist }) c.requires.in_range c.requires.normalised c.requires.saves.closed ends lows in
    subst (P c.in_ok-held.held) (sym c.in_ok-after.ensures.value) (subst (λ (js : List ℕ). P js after) (sym c.in_ok-held.ensures.value) moved)

pub see_move-requires-clause-room : goal.see_move-requires-clause-room
see_move-requires-clause-room g c =
    let before = c.args.circuit.now in
    let set = c.args.set.now in
    room before.aig (border_size (move_of before c.args.keep.now set)) c.known.ensures.graph (omega (arith, c.requires.saves.fewer))

pub see_move-requires-clause-closed : goal.see_move-requires-clause-closed
see_move-requires-clause-closed g c =
    c.requires.saves.closed

pub see_move-requires-clause-marked : goal.see_move-requires-clause-marked
see_move-requires-clause-marked g c = c.requires.prepared.marks

pub held_after-requires-clause-marked : goal.held_after-requires-clause-marked
held_after-requires-clause-marked g c = c.requires.prepared.marks

pub held_after-requires-clause-in_range : goal.held_after-requires-clause-in_range
held_after-requires-clause-in_range g c = c.requires.in_range

pub settled-requires-clause-there : goal.settled-requires-clause-there
settled-requires-clause-there g c =
    let start = c.requires.there in
    let P : Netlist → Type 0 = λ d. ComesWhole g.F.RunFollower.has_come c.args.follower.now c.see_move.new.self c.args.circuit.now d in
    let whole = subst P (sym c.in_ok-after.ensures.value) c.in_ok-see_move.ensures in
    (start.0, start.1, whole start.0 start.1 start.2)

pub finished_move-requires-clause-saves : goal.finished_move-requires-clause-saves
finished_move-requires-clause-saves g c = c.requires.saves

pub finished_move-requires-clause-prepared : goal.finished_move-requires-clause-prepared
finished_move-requires-clause-prepared g c = c.requires.prepared

pub returns-in_err-see_move : goal.returns-in_err-see_move
returns-in_err-see_move g c = IfOk-from_err c.from_residual.result _ c.from_residual.ensures.0

pub returns-in_err-held : goal.returns-in_err-held
returns-in_err-held g c = IfOk-from_err c.from_residual-in_err-held.result _ c.from_residual-in_err-held.ensures.0

pub returns-in_err-after : goal.returns-in_err-after
returns-in_err-after g c = IfOk-from_err c.from_residual-in_err-after.result _ c.from_residual-in_err-after.ensures.0

pub returns : goal.returns
returns g c =
    let before = c.args.circuit.now in
    let P : Netlist → Type 0 = λ d. ComesWhole g.F.RunFollower.has_come c.args.follower.now c.see_move.new.self before d in
    let whole : P c.in_ok-after.after = subst P (sym c.in_ok-after.ensures.value) c.in_ok-see_move.ensures in
    moved-followed g.F.RunFollower.has_come c.args.keep.now before c.in_ok-after.after c.args.set.now c.in_ok-held.held c.args.follower.now c.see_move.new.self c.settled.new.follower c.settled.result
    c.known.ensures.netlist c.requires.in_range c.in_ok-after.ensures.value c.in_ok-held.ensures.value c.in_ok-after.ensures.streams whole c.settled.ensures
