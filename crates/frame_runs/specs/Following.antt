-- What follows a run from circuit to circuit. A follower has come from one circuit to another,
-- whose free latches have these places among those of the first. That is a relation that each
-- follower chooses.
use Rattle.std.specs.Prelude.{ℕ, ◌≡◌, List, Option, length}
use Rattle.aig_graph.specs.Circuits.{Netlist}
use Rattle.aig_graph.specs.Graph.{free_latches}
use Rattle.aig_graph.specs.Laws.{composed}
use Rattle.chosen_cuts.specs.declared.records.Records.{Records}
use Rattle.clean.specs.declared.cleaning.Cleaned.{Cleaned}
use Rattle.retimed_circuits.specs.declared.report.Retimed.{Retimed}
use Rattle.frame_runs.specs.declared.frame.Frame.{Frame}
use Rattle.frame_runs.specs.declared.options.Options.{Options}
use Rattle.frame_runs.specs.declared.run.Run.{Run}
use Rattle.frame_runs.specs.Found.{Moves}
use Rattle.frame_runs.specs.Merging.{ReadCircuit}
use Rattle.frame_runs.specs.Retiming.{IsCleanedBy, IsMovedBy, IsRetimedHeld}
use Rattle.frame_runs.specs.Underway.{IsWholeRun, IsUnderway}

-- it has come to d, from whatever circuit
abbrev pub HasComeTo : {F : Type 0} → (F → Netlist → Netlist → List ℕ → Type 0) → F → Netlist → Type 0
HasComeTo has_come f d = (c : Netlist) × (kept : List ℕ) × has_come f c d kept

-- it has come to d from c, at whose places d has free latches, one a place
pub record HasComeFrom {F : Type 0} (has_come : F → Netlist → Netlist → List ℕ → Type 0) (f : F) (c : Netlist) (kept : List ℕ) (d : Netlist) : Type 0 where
  pub places : length kept ≡ free_latches d.aig
  pub come : has_come f c d kept

-- from d, wherever it had come from, it has come to e, which has the free latches of d at these
-- places
abbrev pub ComesOn : {F : Type 0} → (F → Netlist → Netlist → List ℕ → Type 0) → F → F → Netlist → Netlist → List ℕ → Type 0
ComesOn has_come old new d e more = (c : Netlist) (kept : List ℕ) → length kept ≡ free_latches d.aig → has_come old c d kept → has_come new c e (composed kept more)

-- from d, wherever it had come from, it has come to e, which has all free latches of d
abbrev pub ComesWhole : {F : Type 0} → (F → Netlist → Netlist → List ℕ → Type 0) → F → F → Netlist → Netlist → Type 0
ComesWhole has_come old new d e = (c : Netlist) (kept : List ℕ) → has_come old c d kept → has_come new c e kept

-- d is c cleaned, with the latches at these positions held, and it was followed
pub record IsCleanedFollowed {F : Type 0} (has_come : F → Netlist → Netlist → List ℕ → Type 0) (held : List ℕ) (c : Netlist) (old new : F) (d : Cleaned) : Type 0 where
  pub cleaned : IsCleanedBy held c d
  pub comes : ComesOn has_come old new c d.circuit d.kept_free

-- d is c with its latches moved over the set, and cleaned, and it was followed
pub record IsMovedFollowed {F : Type 0} (has_come : F → Netlist → Netlist → List ℕ → Type 0) (held : List ℕ) (c : Netlist) (set : List ℕ) (old new : F) (d : Cleaned) : Type 0 where
  pub moved : IsMovedBy held c set d
  pub comes : ComesOn has_come old new c d.circuit d.kept_free

-- a frame of c that was followed
pub record MovesFollowed {F : Type 0} (has_come : F → Netlist → Netlist → List ℕ → Type 0) (options : Options) (bound : Option ℕ) (held : List ℕ) (c : Netlist) (old new : F) (frame : Frame) : Type 0 where
  pub moves : Moves options bound held c frame
  pub comes : ComesOn has_come old new c frame.cleaned.circuit frame.cleaned.kept_free

-- The run is what n frames make of d, which is cleaned first. It is reported of c, which is d
-- itself, or was merged to d. The follower has come there from b, as it had come to c, at these
-- places of b.
pub record IsFollowed {F : Type 0} (has_come : F → Netlist → Netlist → List ℕ → Type 0) (options : Options) (b d : Netlist) (read : Option ReadCircuit) (held before : List ℕ) (n : ℕ) (run : Run Retimed F) : Type 0 where
  pub underway : IsUnderway options run.bound d read held n run.retimed run.keep
  pub come : has_come run.follower b run.retimed.circuit (composed before run.retimed.kept_free)

-- the run is some circuit cleaned, and the follower has come there from b
pub record IsReady {F : Type 0} (has_come : F → Netlist → Netlist → List ℕ → Type 0) (options : Options) (b : Netlist) (run : Run Retimed F) : Type 0 where
  pub start : Netlist
  pub read : Option ReadCircuit
  pub held : List ℕ
  pub before : List ℕ
  pub followed : IsFollowed has_come options b start read held before 0 run

-- a run from d that ended, and the follower has come from b to what it came to
pub record EndsFollowed {F : Type 0} (has_come : F → Netlist → Netlist → List ℕ → Type 0) (options : Options) (b d : Netlist) (read : Option ReadCircuit) (held before : List ℕ) (records : Records) (end : Run Retimed F) : Type 0 where
  pub run : IsWholeRun options end.bound d read held records end.retimed end.keep
  pub come : has_come end.follower b end.retimed.circuit (composed before end.retimed.kept_free)

-- c retimed by the options, whose held latches stand at now. The follower had come to c from b,
-- with the free latches at these places of b, and has come on.
pub record IsRetimedFollowed {F : Type 0} (has_come : F → Netlist → Netlist → List ℕ → Type 0) (options : Options) (b : Netlist) (before : List ℕ) (c : Netlist) (r : Retimed) (now : List ℕ)
    (f : F) : Type 0 where
  pub held : IsRetimedHeld options c r now
  pub come : has_come f b r.circuit (composed before r.kept_free)
