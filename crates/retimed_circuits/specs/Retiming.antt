-- What it means that a circuit was retimed.
use Rattle.std.specs.Prelude.{ℕ, ◌≡◌, ◌<◌, ◌≤◌, Bool, true, false, List, length, Option, Some, None}
use Rattle.aig_graph.specs.Circuits.{Netlist}
use Rattle.aig_graph.specs.Keep.{Holding, held_of}
use Rattle.aig_graph.specs.Laws.{composed}
use Rattle.aig_graph.specs.Streams.{SameStreams}
use Rattle.aig_graph.specs.declared.choice.Choice.{Choice}
use Rattle.certificates.specs.declared.merged.MergedLatch.{MergedLatch}
use Rattle.retimed_circuits.specs.declared.report.Retimed.{Retimed}
use Rattle.retimed_circuits.specs.Names.{held_latches, latches_at}
use Rattle.retimed_circuits.specs.Certified.{AreCertified}
use Rattle.retimed_circuits.specs.Frames.{AfterFrames, NoneHelps}
use Rattle.retimed_circuits.specs.Merging.{MergesIn}

-- c cleaned and retimed frame by frame, each over the set that is found. There are at most
-- max_frames of them, until none makes the known latches fewer. The latches at the held positions
-- stay, with their names and resets.
pub record IsRetimedOver (bound : Option ℕ) (choice : Choice) (c : Netlist) (held : List ℕ) (max_frames : ℕ) (certify : Bool) (r : Retimed) : Type 0 where
  pub now : List ℕ
  pub frames : AfterFrames bound choice held c (length r.frames) r.circuit r.kept_free now r.frames
  pub within : length r.frames ≤ max_frames
  pub last : length r.frames < max_frames → NoneHelps bound choice now r.circuit
  pub read_latches : r.read_latches ≡ length c.aig.latches
  pub none_merged : r.merged ≡ None
  pub streams : SameStreams c r.circuit r.kept_free
  pub certified : AreCertified bound choice c held max_frames certify r
  pub stay : latches_at now r.circuit ≡ latches_at held c

-- The latches that are asked to be held, by their names or their positions, are. Those that the
-- names hold stay, with their names and resets.
pub record IsRetimed (bound : Option ℕ) (choice : Choice) (c : Netlist) (holding : Holding) (max_frames : ℕ) (certify : Bool) (r : Retimed) : Type 0 where
  pub run : IsRetimedOver bound choice c (held_of holding c) max_frames certify r
  pub held : held_latches holding.names r.circuit ≡ held_latches holding.names c

-- what is told of a circuit of n latches, if this is what it was merged to by these lines, retimed
abbrev pub since_merged : ℕ → List ℕ → List MergedLatch → Retimed → Retimed
since_merged latches kept lines r = record {
  circuit = r.circuit;
  kept_free = composed kept r.kept_free;
  read_latches = latches;
  merged = Some lines;
  frames = r.frames;
  certificates = r.certificates;
}

-- c cleaned and merged, and that retimed as any circuit is, with the positions of the held latches
-- in it
pub record IsMergedRetimed (bound : Option ℕ) (choice : Choice) (c : Netlist) (holding : Holding) (max_frames : ℕ) (certify : Bool) (r : Retimed) : Type 0 where
  pub start : Netlist
  pub kept : List ℕ
  pub start_held : List ℕ
  pub lines : List MergedLatch
  pub merges : MergesIn (held_of holding c) c start kept start_held lines
  pub from_start : Retimed
  pub retimed : IsRetimedOver bound choice start start_held max_frames certify from_start
  pub whole : r ≡ since_merged (length c.aig.latches) kept lines from_start
  pub streams : SameStreams c r.circuit r.kept_free
  pub stay : latches_at retimed.now r.circuit ≡ latches_at (held_of holding c) c
  pub held : held_latches holding.names r.circuit ≡ held_latches holding.names c

-- c retimed; if latches are to be merged, they are before the first frame
abbrev pub IsRetimedWith : Bool → Option ℕ → Choice → Netlist → Holding → ℕ → Bool → Retimed → Type 0
IsRetimedWith false bound choice c holding max_frames certify r = IsRetimed bound choice c holding max_frames certify r
IsRetimedWith true bound choice c holding max_frames certify r = IsMergedRetimed bound choice c holding max_frames certify r
