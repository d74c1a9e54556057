-- A run of frames that goes on, and one that ended.
use Rattle.std.specs.Prelude.{ℕ, suc, ◌≡◌, ◌<◌, ◌≤◌, List, length, Option, None, Some}
use Rattle.aig_graph.specs.Circuits.{Netlist}
use Rattle.chosen_cuts.specs.declared.records.Records.{Records}
use Rattle.retimed_circuits.specs.declared.report.Retimed.{Retimed}
use Rattle.retimed_circuits.specs.Frames.{AfterFrames}
use Rattle.aig_graph.specs.Laws.{composed}
use Rattle.frame_runs.specs.Certified.{AreCollected}
use Rattle.frame_runs.specs.Merging.{ReadCircuit}
use Rattle.frame_runs.specs.declared.options.Options.{Options}
use Rattle.frame_runs.specs.Retiming.{KeepsStreamsAndHeld, NoneHelpsBy}

-- r is reported of c, or of the circuit that was merged to c. It has the free latches of c at the
-- places `kept`.
abbrev pub IsReportedOf : Option ReadCircuit → Netlist → List ℕ → Retimed → Type 0
IsReportedOf None c kept r = (r.kept_free ≡ kept) × (r.read_latches ≡ length c.aig.latches) × (r.merged ≡ None)
IsReportedOf (Some read) c kept r = (r.kept_free ≡ composed read.kept_free kept) × (r.read_latches ≡ read.latches) × (r.merged ≡ Some read.merged)

-- r is what n frames make of c, which is cleaned first. Its held latches are then at the positions
-- `now`, and nothing is left to clean in it.
pub record IsUnderway (options : Options) (bound : Option ℕ) (c : Netlist) (read : Option ReadCircuit) (held : List ℕ) (n : ℕ) (r : Retimed) (now : List ℕ) : Type 0 where
  pub kept : List ℕ
  pub reported : IsReportedOf read c kept r
  pub frames : AfterFrames bound options.choice held c n r.circuit kept now r.frames
  pub keeps : KeepsStreamsAndHeld held c r.circuit kept now

-- The run took `taken` frames, and ended at their limit or since no set helps. Certificates were
-- collected of the circuits that were looked at. The last one is among them if the limit didn't end
-- the run.
pub record IsWholeRun (options : Options) (bound : Option ℕ) (c : Netlist) (read : Option ReadCircuit) (held : List ℕ) (records : Records) (r : Retimed) (now : List ℕ) : Type 0 where
  pub taken : ℕ
  pub underway : IsUnderway options bound c read held taken r now
  pub within : taken ≤ options.max_frames
  pub last : taken < options.max_frames → NoneHelpsBy options bound now r.circuit
  pub looked : ℕ
  pub collected : AreCollected options bound held c looked records
  pub limited : taken ≡ options.max_frames → looked ≡ taken
  pub ended : taken < options.max_frames → looked ≡ suc taken
