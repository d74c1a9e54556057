-- Laws of frames.
use Rattle.std.specs.Prelude.{ℕ, ◌≡◌, Bool, List, Option, length}
use Rattle.aig_graph.specs.Graph.{IsGraph}
use Rattle.aig_graph.specs.Circuits.{Netlist, IsNetlist}
use Rattle.aig_graph.specs.Keep.{AreLatches, Holding}
use Rattle.aig_graph.specs.declared.choice.Choice.{Choice}
use Rattle.merged_circuits.specs.Inductive.{IsMergedBy}
use Rattle.retimed_circuits.specs.declared.report.FrameReport.{FrameReport}
use Rattle.retimed_circuits.specs.declared.report.Retimed.{Retimed}
use Rattle.retimed_circuits.specs.Names.{StayHeld}
use Rattle.retimed_circuits.specs.Certified.{IsSameRetiming}
use Rattle.retimed_circuits.specs.Frames.{AfterFrames, CleansTo, held_over, moved_over}
use Rattle.retimed_circuits.specs.Retiming.{IsRetimedWith}

-- What a circuit is retimed to, and its certificates but for routes, follow from merging, bound,
-- choice, holding and limit of frames. If latches are merged, also from which are, and what they
-- read as.
abbrev pub IsDetermined : Bool → Option ℕ → Choice → Netlist → Holding → ℕ → Type 0
IsDetermined merge bound choice c holding max_frames = (certify other : Bool) (r s : Retimed) → IsRetimedWith merge bound choice c holding max_frames certify r
    → IsRetimedWith merge bound choice c holding max_frames other s → r.merged ≡ s.merged → IsSameRetiming certify other r s

-- cleaning keeps the held latches
abbrev pub CleaningKeepsHeld : List ℕ → Netlist → Type 0
CleaningKeepsHeld held c = (d : Netlist) (kept now : List ℕ) → IsGraph c.aig → IsNetlist c → AreLatches (length c.aig.latches) held
    → CleansTo held c d kept now → StayHeld held c now d

-- so does merging, which leaves their positions
abbrev pub MergingKeepsHeld : List ℕ → Netlist → Type 0
MergingKeepsHeld held c = (reads : List ℕ) (d : Netlist) → IsMergedBy held reads c d → StayHeld held c held d

-- and moving
abbrev pub MovingKeepsHeld : List ℕ → Netlist → Type 0
MovingKeepsHeld held c = (s : List ℕ) → IsNetlist c → AreLatches (length c.aig.latches) held → StayHeld held c (held_over held c s) (moved_over held c s)

-- so frames do
abbrev pub FramesKeepHeld : Option ℕ → Choice → List ℕ → Netlist → Type 0
FramesKeepHeld bound choice held c = (n : ℕ) (d : Netlist) (kept now : List ℕ) (reports : List FrameReport) → IsGraph c.aig → IsNetlist c
    → AreLatches (length c.aig.latches) held → AfterFrames bound choice held c n d kept now reports → StayHeld held c now d
