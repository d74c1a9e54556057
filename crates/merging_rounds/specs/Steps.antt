-- A step from round to round.
use Rattle.std.specs.Prelude.{ℕ, ◌-◌, ◌≡◌, Bool, List, [], ◌∷◌, ◌++◌, length}
use Rattle.aig_graph.specs.Circuits.{Netlist}
use Rattle.retimed_circuits.specs.declared.report.Retimed.{Retimed}
use Rattle.frame_runs.specs.Beginning.{IsRunBegun}
use Rattle.frame_runs.specs.Bounds.{bound_in}
use Rattle.frame_runs.specs.Following.{IsRetimedFollowed}
use Rattle.frame_runs.specs.Stages.{Cleaning, Notification, Notifies, looks_of, stages_of}
use Rattle.frame_runs.specs.declared.options.Options.{Options}
use Rattle.frame_runs.specs.declared.run.Run.{Run}
use Rattle.merging_rounds.specs.Asking.{AreRoundOptions, Guesses}
use Rattle.merging_rounds.specs.Following.{AreRoundsFollowed, last_cleaning, later_stages}
use Rattle.merging_rounds.specs.Joining.{IsJoined}
use Rattle.merging_rounds.specs.Rounds.{MergesSome, frames_of}
use Rattle.merging_rounds.specs.declared.joining.Report.{Report}
use Rattle.merging_rounds.specs.declared.rounds.Rounds.{Rounds}
use Rattle.merging_rounds.specs.declared.running.BegunAgain.{BegunAgain}
use Rattle.merging_rounds.specs.declared.running.BegunAgain.TheVariants.{Merges, Nothing}
use Rattle.merging_rounds.specs.declared.running.Further.{Further}
use Rattle.merging_rounds.specs.declared.running.Further.TheVariants.{Ended, Round}

-- A run of c by its own options, after rounds of which this is reported, and their report with it.
-- It merged a latch. The follower came from b.
pub record IsFinishedAgain {F W : Type 0} (has_come : F → Netlist → Netlist → List ℕ → Type 0) (was_notified : W → List Notification → Type 0) (asked : Options) (b : Netlist) (report : Report)
    (c : Netlist) (next : Run Rounds F) (old new : W) : Type 0 where
  pub run : Retimed
  pub bound_is : next.bound ≡ bound_in asked c
  pub merges : MergesSome run
  pub followed : IsRetimedFollowed has_come asked b report.kept_free c run next.keep next.follower
  pub is_joined : IsJoined report run next.retimed
  pub notified : Notifies was_notified old new (looks_of asked.max_frames run)

-- rounds that are to go on, and the options of the next one
pub record IsRoundAsked {F : Type 0} (has_come : F → Netlist → Netlist → List ℕ → Type 0) (options : Options) (c : Netlist) (runs : List Retimed) (state : Run Rounds F)
    (asked : Options) : Type 0 where
  pub guesses : Guesses options
  pub followed : AreRoundsFollowed has_come options c runs state
  pub asked_are : AreRoundOptions options state.bound state.keep (options.max_frames - length state.retimed.frames) asked

-- what is reported of rounds
pub record IsReportOf (r : Rounds) (report : Report) : Type 0 where
  pub kept_free : report.kept_free ≡ r.kept_free
  pub read_latches : report.read_latches ≡ r.read_latches
  pub frames : report.frames ≡ r.frames
  pub parts : report.parts ≡ r.parts

-- a round after others that was begun, and merged a latch
pub record HasBegunAgain {F : Type 0} (has_come : F → Netlist → Netlist → List ℕ → Type 0) (c : Netlist) (state : Run Rounds F) (asked : Options) (report : Report) (begun : Run Retimed F) : Type 0 where
  pub merges : MergesSome begun.retimed
  pub reported : IsReportOf state.retimed report
  pub begins : IsRunBegun has_come asked c report.kept_free state.retimed.circuit begun

-- a round after others, or the others if it finds nothing to merge
abbrev pub IsBegunAgain : {F : Type 0} → (F → Netlist → Netlist → List ℕ → Type 0) → Options → Netlist → List Retimed → Run Rounds F → Options → BegunAgain F → Type 0
IsBegunAgain has_come options c runs state asked (Merges report begun) = HasBegunAgain has_come c state asked report begun
IsBegunAgain has_come options c runs state asked (Nothing same) = AreRoundsFollowed has_come options c runs same

-- the rounds with one run more, and the watcher was notified of its stages
pub record IsNextRound {F W : Type 0} (has_come : F → Netlist → Netlist → List ℕ → Type 0) (was_notified : W → List Notification → Type 0) (options : Options) (c : Netlist)
    (runs : List Retimed) (next : Run Rounds F) (old new : W) : Type 0 where
  pub run : Retimed
  pub followed : AreRoundsFollowed has_come options c (runs ++ run ∷ []) next
  pub notified : Notifies was_notified old new (stages_of (options.max_frames - length (frames_of runs)) run)

-- the same rounds, and the watcher was notified of a cleaning alone
pub record IsLastRound {F W : Type 0} (has_come : F → Netlist → Netlist → List ℕ → Type 0) (was_notified : W → List Notification → Type 0) (options : Options) (c : Netlist)
    (runs : List Retimed) (last : Run Rounds F) (old new : W) : Type 0 where
  pub followed : AreRoundsFollowed has_come options c runs last
  pub notified : Notifies was_notified old new (Cleaning ∷ [])

-- what becomes of a further round
abbrev pub IsFurther : {F W : Type 0} → (F → Netlist → Netlist → List ℕ → Type 0) → (W → List Notification → Type 0) → Options → Netlist → List Retimed → Further F → W → W → Type 0
IsFurther has_come was_notified options c runs (Round next) old new = IsNextRound has_come was_notified options c runs next old new
IsFurther has_come was_notified options c runs (Ended last) old new = IsLastRound has_come was_notified options c runs last old new

-- Rounds with more runs, and the watcher was notified of their stages. At the end a further round
-- may have found nothing to merge.
pub record AreMoreRounds {F W : Type 0} (has_come : F → Netlist → Netlist → List ℕ → Type 0) (was_notified : W → List Notification → Type 0) (options : Options) (c : Netlist)
    (runs : List Retimed) (nothing : Bool) (state : Run Rounds F) (old new : W) : Type 0 where
  pub more : List Retimed
  pub followed : AreRoundsFollowed has_come options c (runs ++ more) state
  pub notified : Notifies was_notified old new (later_stages (options.max_frames - length (frames_of runs)) more ++ last_cleaning nothing)

-- more rounds, and perhaps a last one that found nothing to merge
abbrev pub EndsInMoreRounds : {F W : Type 0} → (F → Netlist → Netlist → List ℕ → Type 0) → (W → List Notification → Type 0) → Options → Netlist → List Retimed → Run Rounds F → W → W → Type 0
EndsInMoreRounds has_come was_notified options c runs end old new =
    (nothing : Bool) × AreMoreRounds has_come was_notified options c runs nothing end old new
