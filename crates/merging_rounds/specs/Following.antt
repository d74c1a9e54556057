-- Rounds under way, and what goes with them: a follower, and a watcher.
use Rattle.std.specs.Prelude.{ℕ, ◌-◌, ◌≡◌, Bool, true, false, List, [], ◌∷◌, ◌++◌, length}
use Rattle.aig_graph.specs.Circuits.{IsNetlist, Netlist}
use Rattle.aig_graph.specs.Graph.{IsGraph}
use Rattle.aig_graph.specs.Laws.{all_free}
use Rattle.retimed_circuits.specs.declared.report.Retimed.{Retimed}
use Rattle.retimed_circuits.specs.RetimingLevels.{KeepsLevels}
use Rattle.frame_runs.specs.Beginning.{IsRunBegun}
use Rattle.frame_runs.specs.Bounds.{bound_in}
use Rattle.frame_runs.specs.Following.{IsRetimedFollowed}
use Rattle.frame_runs.specs.Stages.{Cleaning, Notification, Notifies, looks_of, stages_of}
use Rattle.frame_runs.specs.declared.options.Options.{Options}
use Rattle.frame_runs.specs.declared.run.Run.{Run}
use Rattle.merging_rounds.specs.Asking.{AreMergedAsGiven, IsInRounds}
use Rattle.merging_rounds.specs.declared.rounds.Rounds.{Rounds}

-- the stages of further runs, of which each may take the frames that those before it left
unfoldable pub later_stages : ℕ → List Retimed → List Notification
later_stages limit [] = []
later_stages limit (run ∷ runs) = stages_of limit run ++ later_stages (limit - length run.frames) runs

-- the stages of all runs, from the cleaned circuit of the first on
abbrev pub looks_of_runs : ℕ → List Retimed → List Notification
looks_of_runs limit [] = []
looks_of_runs limit (run ∷ runs) = looks_of limit run ++ later_stages (limit - length run.frames) runs

-- A circuit c retimed in rounds, under the bound that the options have for it, which is kept. The
-- follower has come there from c.
pub record AreRoundsFollowed {F : Type 0} (has_come : F → Netlist → Netlist → List ℕ → Type 0) (options : Options) (c : Netlist) (runs : List Retimed) (state : Run Rounds F) : Type 0 where
  pub graph : IsGraph c.aig
  pub netlist : IsNetlist c
  pub bound_is : state.bound ≡ bound_in options c
  pub is : IsInRounds options c runs state.retimed state.keep
  pub given : AreMergedAsGiven options state.retimed
  pub levels : KeepsLevels state.bound c state.retimed.circuit
  pub come : has_come state.follower c state.retimed.circuit state.retimed.kept_free

-- the cleaning before a last round that found no latch to merge, if there was one
abbrev pub last_cleaning : Bool → List Notification
last_cleaning false = []
last_cleaning true = Cleaning ∷ []

-- So by some runs, and the watcher was notified of their stages, but for the cleaning before the
-- first. At the end a further round may have found nothing.
pub record EndInRounds {F W : Type 0} (has_come : F → Netlist → Netlist → List ℕ → Type 0) (was_notified : W → List Notification → Type 0) (options : Options) (c : Netlist) (end : Run Rounds F)
    (old new : W) : Type 0 where
  pub runs : List Retimed
  pub followed : AreRoundsFollowed has_come options c runs end
  pub nothing : Bool
  pub notified : Notifies was_notified old new (looks_of_runs options.max_frames runs ++ last_cleaning nothing)

-- a circuit c before the first frame of its first round; the follower had come to it from itself
pub record AreRoundsBegun {F : Type 0} (has_come : F → Netlist → Netlist → List ℕ → Type 0) (options : Options) (c : Netlist) (begun : Run Retimed F) : Type 0 where
  pub graph : IsGraph c.aig
  pub netlist : IsNetlist c
  pub starts : IsRunBegun has_come options c (all_free c.aig) c begun

-- a run of c that ended, and the follower has come with it from c
pub record IsFirstRun {F : Type 0} (has_come : F → Netlist → Netlist → List ℕ → Type 0) (options : Options) (c : Netlist) (run : Run Retimed F) : Type 0 where
  pub graph : IsGraph c.aig
  pub netlist : IsNetlist c
  pub bound_is : run.bound ≡ bound_in options c
  pub followed : IsRetimedFollowed has_come options c (all_free c.aig) c run.retimed run.keep run.follower

-- c retimed in rounds by the options, whichever runs those are; its held latches stand at now
pub record AreRoundsOf (options : Options) (c : Netlist) (r : Rounds) (now : List ℕ) : Type 0 where
  pub runs : List Retimed
  pub is : IsInRounds options c runs r now
  pub given : AreMergedAsGiven options r

-- whose bound is kept, and a watcher was notified of these first and last stages, and of those of
-- the rounds between them
pub record AreRoundsSeen {W : Type 0} (was_notified : W → List Notification → Type 0) (before after : List Notification) (options : Options) (c : Netlist) (r : Rounds) (now : List ℕ)
    (old new : W) : Type 0 where
  pub rounds : AreRoundsOf options c r now
  pub levels : KeepsLevels (bound_in options c) c r.circuit
  pub nothing : Bool
  pub notified : Notifies was_notified old new (before ++ ((looks_of_runs options.max_frames rounds.runs ++ last_cleaning nothing) ++ after))
