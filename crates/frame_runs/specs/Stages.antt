-- What a watcher is notified of in a run, in order.
use Rattle.std.specs.Prelude.{ℕ, suc, zero, ◌-◌, List, [], ◌∷◌, ◌++◌, length}
use Rattle.aig_graph.specs.Graph.{known_latches}
use Rattle.retimed_circuits.specs.declared.report.FrameReport.{FrameReport}
use Rattle.retimed_circuits.specs.declared.report.Retimed.{Retimed}
use Rattle.frame_runs.specs.declared.watcher.Stage.{Stage}
use Rattle.frame_runs.specs.declared.watcher.Stage.TheVariants as stages

-- a stage that begins: of a look for a set how many frames were taken before, and how many known
-- latches there are
pub data Notification : Type 0 where
  Cleaning : Notification
  Looking : (taken latches : ℕ) → Notification
  Moving : Notification
  Writing : Notification

-- what a stage notifies of as it begins
abbrev pub notification_of : Stage → Notification
notification_of stages.Cleaning = Cleaning
notification_of (stages.Looking taken aig) = Looking taken (known_latches aig.now)
notification_of stages.Moving = Moving
notification_of stages.Writing = Writing

-- a watcher that had been notified of whatever stages has been notified of these after them
abbrev pub Notifies : {W : Type 0} → (W → List Notification → Type 0) → W → W → List Notification → Type 0
Notifies was_notified old new stages = (before : List Notification) → was_notified old before → was_notified new (before ++ stages)

-- of each frame, the first of which comes after `taken` frames: its set is looked for, and latches
-- move over it
unfoldable pub frame_stages : ℕ → List FrameReport → List Notification
frame_stages taken [] = []
frame_stages taken (report ∷ reports) = Looking taken report.before ∷ Moving ∷ frame_stages (suc taken) reports

-- if the limit leaves a frame, a set is looked for once more, and none helps
abbrev pub last_look : ℕ → ℕ → ℕ → List Notification
last_look zero taken latches = []
last_look (suc left) taken latches = Looking taken latches ∷ []

-- from the cleaned circuit on
abbrev pub looks_of : ℕ → Retimed → List Notification
looks_of limit r = frame_stages 0 r.frames ++ last_look (limit - length r.frames) (length r.frames) (known_latches r.circuit.aig)

-- all stages of a run with this limit of frames, up to the retimed circuit
abbrev pub stages_of : ℕ → Retimed → List Notification
stages_of limit r = Cleaning ∷ looks_of limit r
