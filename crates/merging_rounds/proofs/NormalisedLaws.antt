-- Where runs end, nothing is left to clean.
use Rattle.std.proofs.Common.{ℕ, ◌-◌, ◌<◌, Bool, true, false, List, Option, length, sym, subst}
use Rattle.std.specs.List.{All}
use Rattle.aig_graph.specs.Circuits.{Netlist}
use Rattle.aig_graph.specs.Keep.{Holding, held_of}
use Rattle.aig_graph.specs.Move.{move_of}
use Rattle.aig_graph.specs.declared.choice.Choice.{Choice}
use Rattle.aig_graph.proofs.PositionLaws.{held_of-below, held_of-rising}
use Rattle.clean.specs.Normalised.{IsNormalised}
use Rattle.clean.proofs.FrameLaws.{cleans-normalised}
use Rattle.cleaned_circuits.proofs.PassLaws.{IsCircuit}
use Rattle.rebuild.proofs.HeldLaws.{moved_held-below}
use Rattle.retimed_circuits.specs.declared.report.FrameReport.{FrameReport}
use Rattle.retimed_circuits.specs.declared.report.Retimed.{Retimed}
use Rattle.retimed_circuits.specs.Frames.{AfterFrames, cleaned, frame, held_over, moved_over}
use Rattle.retimed_circuits.specs.Retiming.{IsMergedRetimed}
use Rattle.retimed_circuits.proofs.CircuitLaws.{Held, after-held, moved-circuit}
use Rattle.retimed_circuits.proofs.FoundLaws.{found-closed}
use Rattle.frame_runs.specs.Retiming.{IsRetimedTo}
use Rattle.merging_rounds.specs.Rounds.{AfterRuns, again, at_positions, first, frames_of}
use Rattle.merging_rounds.proofs.HeldLaws.{HeldInOrder, merges-in-order}
use Rattle.merging_rounds.proofs.RoundLaws.{runs-in-order}

-- what frames end with has nothing to clean
after-normalised : (bound : Option ℕ) (choice : Choice) (held : List ℕ) (c : Netlist) → IsCircuit c → All (λ j. j < length c.aig.latches) held → (n : ℕ) (d : Netlist) (kept now : List ℕ) (reports : List FrameReport)
    → AfterFrames bound choice held c n d kept now reports → IsNormalised now d
after-normalised bound choice held c valid in_range _ _ _ _ _ (cleaned d kept now cleans) = cleans-normalised d now held c cleans.held_after valid in_range
after-normalised bound choice held c valid in_range _ _ _ _ _ (frame n d e kept left now later reports report before f) =
    let so_far : Held held c now d = after-held bound choice held c valid in_range n d kept now reports before in
    let whole : IsCircuit (moved_over now d f.set) = moved-circuit now d f.set so_far.circuit (found-closed bound choice now d f.set f.helps.found) f.helps.fewer in
    cleans-normalised e later (held_over now d f.set) (moved_over now d f.set) f.cleaned.held_after whole (moved_held-below (move_of d now f.set) so_far.in_range)

-- nor does what a run ends with
run-normalised : (merge : Bool) (bound : Option ℕ) (choice : Choice) (c : Netlist) (holding : Holding) (max_frames : ℕ) (certify : Bool) (r : Retimed) (now : List ℕ) → IsCircuit c
    → IsRetimedTo merge bound choice c holding max_frames certify r now → IsNormalised now r.circuit
run-normalised false bound choice c holding max_frames certify r now valid is =
    let run = is.retimed.run in
    subst (λ (js : List ℕ). IsNormalised js r.circuit) (sym is.held)
    (after-normalised bound choice (held_of holding c) c valid (held_of-below holding c valid.netlist) (length r.frames) r.circuit r.kept_free run.now r.frames run.frames)
run-normalised true bound choice c holding max_frames certify r now valid is =
    let held : List ℕ = held_of holding c in
    let m : IsMergedRetimed bound choice c holding max_frames certify r = is.retimed in
    let s : Retimed = m.from_start in
    let begun : HeldInOrder held c m.start_held m.start =
    merges-in-order held c m.start m.kept m.start_held m.lines valid (held_of-below holding c valid.netlist) (held_of-rising holding c valid.netlist) m.merges in
    let ended : IsNormalised m.retimed.now s.circuit =
    after-normalised bound choice m.start_held m.start begun.stand.circuit begun.stand.in_range (length s.frames) s.circuit s.kept_free m.retimed.now s.frames m.retimed.frames in
    subst (λ (js : List ℕ). IsNormalised js r.circuit) (sym is.held) (subst (λ (x : Retimed). IsNormalised m.retimed.now x.circuit) (sym m.whole) ended)

-- nor what several do
pub runs-normalised : (merge : Bool) (bound : Option ℕ) (choice : Choice) (c : Netlist) (holding : Holding) (max_frames : ℕ) (certify : Bool) → IsCircuit c → (runs : List Retimed) (d : Netlist) (kept now : List ℕ)
    → AfterRuns merge bound choice c holding max_frames certify runs d kept now → IsNormalised now d
runs-normalised merge bound choice c holding max_frames certify valid _ _ _ _ (first run now is) = run-normalised merge bound choice c holding max_frames certify run now valid is
runs-normalised merge bound choice c holding max_frames certify valid _ _ _ _ (again runs d kept now later run before asked some is) =
    let so_far : HeldInOrder (held_of holding c) c now d = runs-in-order merge bound choice c holding max_frames certify valid runs d kept now before in
    run-normalised true bound choice d (at_positions now) (max_frames - length (frames_of runs)) certify run later so_far.stand.circuit is
