-- Rounds of a retiming: runs of frames, one after another. Each begins with the circuit that the
-- one before it left.
use Rattle.std.specs.Prelude.{ℕ, ◌-◌, ◌<◌, ◌≤◌, ◌≡◌, Bool, true, false, List, [], ◌∷◌, ◌++◌, length, map, Option, Some}
use Rattle.std.specs.List.{flat_map}
use Rattle.aig_graph.specs.Circuits.{Netlist}
use Rattle.aig_graph.specs.Keep.{Holding, held_of}
use Rattle.aig_graph.specs.Laws.{composed}
use Rattle.aig_graph.specs.Streams.{SameStreams}
use Rattle.aig_graph.specs.declared.choice.Choice.{Choice}
use Rattle.certificate_files.specs.declared.file.CertPart.{CertPart}
use Rattle.certificates.specs.declared.merged.MergedLatch.{MergedLatch}
use Rattle.retimed_circuits.specs.declared.report.FrameReport.{FrameReport}
use Rattle.retimed_circuits.specs.declared.report.Retimed.{Retimed}
use Rattle.retimed_circuits.specs.Frames.{NoneHelps}
use Rattle.retimed_circuits.specs.Names.{StayHeld, held_latches}
use Rattle.frame_runs.specs.Retiming.{IsRetimedTo}
use Rattle.merging_rounds.specs.declared.rounds.Rounds.{Rounds}

-- latches that are asked to be held by their positions alone
abbrev pub at_positions : List ℕ → Holding
at_positions held = record { names = []; positions = held }

-- the frames of all runs, one after another
abbrev pub frames_of : List Retimed → List FrameReport
frames_of runs = flat_map (λ (run : Retimed). run.frames) runs

-- what a file of certificates says of a run
abbrev pub part_of : Retimed → CertPart
part_of run = record { merged = run.merged; blocks = run.certificates }

-- the latches that each round merged
abbrev pub merged_in : Rounds → List (Option (List MergedLatch))
merged_in r = map (λ (part : CertPart). part.merged) r.parts

-- a run that merged a latch
pub record MergesSome (run : Retimed) : Type 0 where
  pub lines : List MergedLatch
  pub merged : run.merged ≡ Some lines
  pub some : 0 < length lines

-- the run was to merge latches, and merged none
abbrev pub MergesNone : Retimed → Type 0
MergesNone run = (lines : List MergedLatch) → run.merged ≡ Some lines → lines ≡ []

-- These runs lead from c to d, one after another. The first is c retimed as is asked for. Each
-- later one merges a latch of the circuit that it begins with, and takes at most the frames that
-- are left. Held latches are known by their positions then. kept has the places of the free latches
-- that stay, and now the positions of the held latches in d.
pub data AfterRuns (merge : Bool) (bound : Option ℕ) (choice : Choice) (c : Netlist) (holding : Holding) (max_frames : ℕ) (certify : Bool) : List Retimed → Netlist → List ℕ → List ℕ → Type 0 where
  first : (run : Retimed) (now : List ℕ) → IsRetimedTo merge bound choice c holding max_frames certify run now
      → AfterRuns merge bound choice c holding max_frames certify (run ∷ []) run.circuit run.kept_free now
  again : (runs : List Retimed) (d : Netlist) (kept now later : List ℕ) (run : Retimed) → AfterRuns merge bound choice c holding max_frames certify runs d kept now
      → merge ≡ true → MergesSome run → IsRetimedTo true bound choice d (at_positions now) (max_frames - length (frames_of runs)) certify run later
      → AfterRuns merge bound choice c holding max_frames certify (runs ++ run ∷ []) run.circuit (composed kept run.kept_free) later

-- c retimed by these runs, and what is told of them. There are at most max_frames frames, and fewer
-- if no set makes the known latches fewer. Without merging there is one run.
pub record IsRetimedInRounds (merge : Bool) (bound : Option ℕ) (choice : Choice) (c : Netlist) (holding : Holding) (max_frames : ℕ) (certify : Bool) (runs : List Retimed) (r : Rounds)
    (now : List ℕ) : Type 0 where
  pub after : AfterRuns merge bound choice c holding max_frames certify runs r.circuit r.kept_free now
  pub read_latches : r.read_latches ≡ length c.aig.latches
  pub frames : r.frames ≡ frames_of runs
  pub parts : r.parts ≡ map part_of runs
  pub within : length r.frames ≤ max_frames
  pub last : length r.frames < max_frames → NoneHelps bound choice now r.circuit
  pub one : merge ≡ false → length runs ≡ 1
  pub streams : SameStreams c r.circuit r.kept_free
  pub stays : StayHeld (held_of holding c) c now r.circuit
  pub held : held_latches holding.names r.circuit ≡ held_latches holding.names c
