-- What is so of each run, with merging or without.
use Rattle.std.proofs.Common.{ℕ, ◌<◌, ◌≤◌, Bool, true, false, List, Option, length, sym, subst}
use Rattle.aig_graph.specs.Circuits.{Netlist}
use Rattle.aig_graph.specs.Keep.{Holding}
use Rattle.aig_graph.specs.Streams.{SameStreams}
use Rattle.aig_graph.specs.declared.choice.Choice.{Choice}
use Rattle.retimed_circuits.specs.declared.report.Retimed.{Retimed}
use Rattle.retimed_circuits.specs.Frames.{NoneHelps}
use Rattle.frame_runs.specs.Retiming.{IsRetimedTo}

-- it keeps the streams
pub run-streams : (merge : Bool) (bound : Option ℕ) (choice : Choice) (c : Netlist) (holding : Holding) (max_frames : ℕ) (certify : Bool) (r : Retimed) (now : List ℕ)
    → IsRetimedTo merge bound choice c holding max_frames certify r now → SameStreams c r.circuit r.kept_free
run-streams false bound choice c holding max_frames certify r now is = is.retimed.run.streams
run-streams true bound choice c holding max_frames certify r now is = is.retimed.streams

-- it takes no more frames than it may
pub run-within : (merge : Bool) (bound : Option ℕ) (choice : Choice) (c : Netlist) (holding : Holding) (max_frames : ℕ) (certify : Bool) (r : Retimed) (now : List ℕ)
    → IsRetimedTo merge bound choice c holding max_frames certify r now → length r.frames ≤ max_frames
run-within false bound choice c holding max_frames certify r now is = is.retimed.run.within
run-within true bound choice c holding max_frames certify r now is = subst (λ (x : Retimed). length x.frames ≤ max_frames) (sym is.retimed.whole) is.retimed.retimed.within

-- and if it takes fewer, none helps
pub run-last : (merge : Bool) (bound : Option ℕ) (choice : Choice) (c : Netlist) (holding : Holding) (max_frames : ℕ) (certify : Bool) (r : Retimed) (now : List ℕ)
    → IsRetimedTo merge bound choice c holding max_frames certify r now → length r.frames < max_frames → NoneHelps bound choice now r.circuit
run-last false bound choice c holding max_frames certify r now is fewer =
    subst (λ (js : List ℕ). NoneHelps bound choice js r.circuit) (sym is.held) (is.retimed.run.last fewer)
run-last true bound choice c holding max_frames certify r now is fewer =
    let m = is.retimed in
    let P : Retimed → Type 0 = λ x. length x.frames < max_frames → NoneHelps bound choice m.retimed.now x.circuit in
    let ends : P r = subst P (sym m.whole) m.retimed.last in
    subst (λ (js : List ℕ). NoneHelps bound choice js r.circuit) (sym is.held) (ends fewer)
