-- Frames under a bound keep it.
use Rattle.std.proofs.Common.{ℕ, true, false, ◌<◌, ◌≤◌, List, Some, None, max, length, arith, sym, subst}
use Rattle.aig_graph.specs.Circuits.{Netlist}
use Rattle.aig_graph.specs.Graph.{known_latches}
use Rattle.aig_graph.specs.Keep.{held_of}
use Rattle.aig_graph.specs.Move.{move_of}
use Rattle.aig_graph.specs.declared.choice.Choice.{Choice}
use Rattle.cleaned_circuits.proofs.PassLaws.{IsCircuit, IsCircuit-cleans}
use Rattle.merged_circuits.proofs.MergingLaws.{IsGraph-merged_by, IsNetlist-merged_by}
use Rattle.path_levels.specs.Levels.{levels}
use Rattle.retimed_circuits.specs.declared.report.FrameReport.{FrameReport}
use Rattle.retimed_circuits.specs.declared.report.Retimed.{Retimed}
use Rattle.retimed_circuits.specs.Frames.{AfterFrames, CleansTo, IsFoundWithin, IsFrame, cleaned, count_over, found_whole, found_within, frame, held_over, moved_over}
use Rattle.retimed_circuits.proofs.CircuitLaws.{moved-circuit}
use Rattle.retimed_circuits.proofs.FoundLaws.{found-closed, within-least}
use Rattle.retimed_circuits.specs.RetimingLevels.{RetimingKeepsLevels}
use Rattle.retimed_circuits.proofs.CleaningLevelLaws.{cleans-levels}
use Rattle.retimed_circuits.proofs.MovedLevelLaws.{moved-levels}
use Rattle.retimed_circuits.proofs.ReplacedLevelLaws.{merged_latches-levels}

module _ (bound : ℕ) (choice : Choice) where
  -- a move over the set that is found, if that helps, keeps the bound
  found-levels : (held : List ℕ) (c : Netlist) (s : List ℕ) → IsCircuit c → IsFoundWithin bound choice held c s → count_over held c s < known_latches c.aig
      → levels (moved_over held c s) ≤ max bound (levels c)
  found-levels held c _ valid (found_whole s chosen keeps) fewer = let short : levels (moved_over held c s) ≤ bound = keeps fewer in omega (arith, short)
  found-levels held c _ valid (found_within r s long chosen) fewer =
      moved-levels (move_of c held s) valid.graph bound (within-least bound choice c held s chosen).closed valid.netlist

  -- a circuit in order that keeps the bound
  record Bounded (c d : Netlist) : Type 0 where
    circuit : IsCircuit d
    kept : levels d ≤ max bound (levels c)

  frame-levels : (held : List ℕ) (c d e : Netlist) (left now : List ℕ) (report : FrameReport) → Bounded c d → IsFrame (Some bound) choice held d e left now report → Bounded c e
  frame-levels held c d e left now report before f =
      let moved : Netlist = moved_over held d f.set in
      let there : List ℕ = held_over held d f.set in
      let whole : IsCircuit moved = moved-circuit held d f.set before.circuit (found-closed (Some bound) choice held d f.set f.helps.found) f.helps.fewer in
      let over : levels moved ≤ max bound (levels d) = found-levels held d f.set before.circuit f.helps.found f.helps.fewer in
      let clean : levels e ≤ levels moved = cleans-levels e there moved left f.cleaned.cleans whole in
      record {
        circuit = IsCircuit-cleans e there moved left f.cleaned.cleans whole;
        kept = omega (arith, clean, over, before.kept);
      }

  frames-levels : (held : List ℕ) (c : Netlist) → IsCircuit c → (n : ℕ) (d : Netlist) (kept now : List ℕ) (reports : List FrameReport) → AfterFrames (Some bound) choice held c n d kept now reports → Bounded c d
  frames-levels held c valid _ _ _ _ _ (cleaned d kept now cleans) = record {
    circuit = IsCircuit-cleans d held c kept cleans.cleans valid;
    kept = let low : levels d ≤ levels c = cleans-levels d held c kept cleans.cleans valid in omega (arith, low);
  }
  frames-levels held c valid _ _ _ _ _ (frame n d e kept left now later reports report before f) =
      frame-levels now c d e left later report (frames-levels held c valid n d kept now reports before) f

-- so does what a circuit is retimed to
pub retiming-levels : RetimingKeepsLevels
retiming-levels merge None choice c holding max_frames certify r graph netlist is = tt
retiming-levels false (Some bound) choice c holding max_frames certify r graph netlist is =
    (frames-levels bound choice (held_of holding c) c (record { graph = graph; netlist = netlist }) (length r.frames) r.circuit r.kept_free is.run.now r.frames is.run.frames).kept
retiming-levels true (Some bound) choice c holding max_frames certify r graph netlist is =
    let whole : IsCircuit c = record { graph = graph; netlist = netlist } in
    let clean : Netlist = is.merges.clean in
    let cleans : CleansTo (held_of holding c) c clean is.kept is.start_held = is.merges.cleaned in
    let first : IsCircuit clean = IsCircuit-cleans clean (held_of holding c) c is.kept cleans.cleans whole in
    let start : IsCircuit is.start = record {
      graph = IsGraph-merged_by is.start_held is.merges.reads clean is.start first.graph is.merges.merged;
      netlist = IsNetlist-merged_by is.start_held is.merges.reads clean is.start first.graph first.netlist is.merges.merged;
    } in
    let s : Retimed = is.from_start in
    let cleaning : levels clean ≤ levels c = cleans-levels clean (held_of holding c) c is.kept cleans.cleans whole in
    let merging : levels is.start ≤ levels clean = merged_latches-levels is.start_held is.merges.reads clean is.start first.graph first.netlist is.merges.merged in
    let ended : levels s.circuit ≤ max bound (levels is.start) =
    (frames-levels bound choice is.start_held is.start start (length s.frames) s.circuit s.kept_free is.retimed.now s.frames is.retimed.frames).kept in
    let kept : levels s.circuit ≤ max bound (levels c) = omega (arith, ended, merging, cleaning) in
    subst (λ (x : Retimed). levels x.circuit ≤ max bound (levels c)) (sym is.whole) kept
