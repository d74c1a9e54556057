-- What frames start from.
use Rattle.std.specs.Prelude.{ℕ, ◌≡◌, true, false, List, Option, Some, None, length}
use Rattle.aig_graph.specs.Circuits.{Netlist}
use Rattle.aig_graph.specs.Graph.{free_latches}
use Rattle.latch_merging.specs.declared.start.MergedStart.{MergedStart}
use Rattle.retimed_circuits.specs.declared.report.Retimed.{Retimed}
use Rattle.retimed_circuits.specs.Names.{Covers}
use Rattle.frame_runs.specs.declared.options.Options.{Options}
use Rattle.frame_runs.specs.declared.run.Run.{Run}
use Rattle.frame_runs.specs.Bounds.{bound_in}
use Rattle.frame_runs.specs.Following.{ComesOn, IsFollowed}
use Rattle.frame_runs.specs.Merging.{IsRunStart, ReadCircuit}
use Rattle.frame_runs.specs.Named.{kept_by, names_in}
use Rattle.frame_runs.specs.Underway.{IsUnderway}

-- r is d cleaned, with the latches at these positions held, and it was followed
pub record IsCleanedRun {F : Type 0} (has_come : F → Netlist → Netlist → List ℕ → Type 0) (options : Options) (bound : Option ℕ) (d : Netlist) (held : List ℕ) (old new : F) (r : Retimed)
    (now : List ℕ) : Type 0 where
  pub underway : IsUnderway options bound d None held 0 r now
  pub comes : ComesOn has_come old new d r.circuit r.kept_free

-- what is known of a circuit with `latches` latches that was merged to m
abbrev pub read_before : MergedStart → ℕ → ReadCircuit
read_before m latches = record { latches = latches; kept_free = m.kept_free; merged = m.merged }

-- a merged circuit cleaned, and it was followed; it is reported of the circuit that was merged
pub record IsMergedFrom {F : Type 0} (has_come : F → Netlist → Netlist → List ℕ → Type 0) (options : Options) (m : MergedStart) (latches : ℕ) (old : F) (run : Run Retimed F) : Type 0 where
  pub underway : IsUnderway options run.bound m.circuit (Some (read_before m latches)) m.keep 0 run.retimed run.keep
  pub comes : ComesOn has_come old run.follower m.circuit run.retimed.circuit underway.kept

-- What c is cleaned and merged to, cleaned again. The follower had come to c from b, whose places
-- of free latches are given, and has come on.
pub record IsMergedReady {F : Type 0} (has_come : F → Netlist → Netlist → List ℕ → Type 0) (options : Options) (b : Netlist) (before : List ℕ) (c : Netlist) (read : ReadCircuit) (run : Run Retimed F) : Type 0 where
  pub asked : options.merge ≡ true
  pub start : Netlist
  pub held : List ℕ
  pub is : IsRunStart options c start held read
  pub followed : IsFollowed has_come options b start (Some read) held before 0 run

-- c cleaned, and the follower has come on so
pub record IsPlainReady {F : Type 0} (has_come : F → Netlist → Netlist → List ℕ → Type 0) (options : Options) (b : Netlist) (before : List ℕ) (c : Netlist) (run : Run Retimed F) : Type 0 where
  pub unasked : options.merge ≡ false
  pub followed : IsFollowed has_come options b c None (kept_by options c) before 0 run

-- what frames of c start from, with merging if the options ask for it
abbrev pub StartsFrom : {F : Type 0} → (F → Netlist → Netlist → List ℕ → Type 0) → Options → Netlist → List ℕ → Netlist → Option ReadCircuit → Run Retimed F → Type 0
StartsFrom has_come options b before c None run = IsPlainReady has_come options b before c run
StartsFrom has_come options b before c (Some read) run = IsMergedReady has_come options b before c read run

-- c before its first frame, under the bound that the options have for it. Its held latches are
-- those that the options hold, with all of their names. The follower had come to c from b.
pub record IsRunBegun {F : Type 0} (has_come : F → Netlist → Netlist → List ℕ → Type 0) (options : Options) (b : Netlist) (before : List ℕ) (c : Netlist) (run : Run Retimed F) : Type 0 where
  pub names : Covers (names_in options) (kept_by options c) c
  pub bound_is : run.bound ≡ bound_in options c
  pub places : length before ≡ free_latches c.aig
  pub read : Option ReadCircuit
  pub starts : StartsFrom has_come options b before c read run
