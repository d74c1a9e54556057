-- What is found in a circuit before a frame.
use Rattle.std.specs.Prelude.{ℕ, ◌≡◌, ◌<◌, ◌≤◌, ⊤, List, Option, Some, None, IfSome, MatchOption}
use Rattle.aig_graph.specs.Border.{border_size}
use Rattle.aig_graph.specs.Chosen.{IsChosen}
use Rattle.aig_graph.specs.Circuits.{Netlist}
use Rattle.aig_graph.specs.Closed.{IsClosedSet}
use Rattle.aig_graph.specs.Graph.{known_latches}
use Rattle.aig_graph.specs.Laws.{all_free}
use Rattle.aig_graph.specs.Move.{move_of}
use Rattle.aig_graph.specs.Streams.{SameStreams}
use Rattle.aig_graph.specs.declared.choice.Choice.{Choice}
use Rattle.chosen_cuts.specs.Certified.{AddsOne}
use Rattle.chosen_cuts.specs.declared.records.Records.{Records}
use Rattle.path_levels.specs.Levels.{levels}
use Rattle.rebuild.specs.Marked.{AreMarksOf}
use Rattle.rebuild.specs.Moved.{moved_of}
use Rattle.retimed_circuits.specs.Frames.{CleansTo, IsFrame, held_over, moved_over, report_over}
use Rattle.frame_runs.specs.declared.helping.Helping.{Helping}
use Rattle.frame_runs.specs.declared.helping.PreparedMove.{PreparedMove}
use Rattle.frame_runs.specs.declared.bounding.Judged.{Judged}
use Rattle.frame_runs.specs.declared.bounding.Judged.TheVariants.{Decided, TooLong}
use Rattle.frame_runs.specs.declared.frame.Frame.{Frame}
use Rattle.frame_runs.specs.declared.options.Options.{Options}
use Rattle.frame_runs.specs.Certified.{AddsFound}
use Rattle.frame_runs.specs.Retiming.{IsHelpingSetBy, KeepsStreamsAndHeld, NoneHelpsBy}

-- a closed set that counts less than c has known latches
pub record IsSavingSet (c : Netlist) (held s : List ℕ) : Type 0 where
  pub closed : IsClosedSet c.aig held s
  pub fewer : border_size (move_of c held s) < known_latches c.aig

-- d is c after the move over the set
pub record IsAfterMove (c : Netlist) (held s : List ℕ) (d : Netlist) : Type 0 where
  pub value : d ≡ moved_of (move_of c held s)
  pub streams : SameStreams c d (all_free c.aig)

-- it has the marks of the move over the set, and the circuit after it if that was made
pub record IsPrepared (c : Netlist) (held s : List ℕ) (prepared : PreparedMove) : Type 0 where
  pub marks : AreMarksOf (move_of c held s) prepared.marks
  pub after : IfSome prepared.after (IsAfterMove c held s)

-- it is over this set, which saves latches, with the move over it, and its report
pub record IsOver (c : Netlist) (held s : List ℕ) (found : Helping) : Type 0 where
  pub same : found.set ≡ s
  pub saves : IsSavingSet c held found.set
  pub prepared : IsPrepared c held found.set found.prepared
  pub report : found.report ≡ report_over held c found.set

-- what is found over a set: nothing if it counts no less than c has known latches
abbrev pub IsFoundOver : Netlist → List ℕ → List ℕ → Option Helping → Type 0
IsFoundOver c held s found = MatchOption found (known_latches c.aig ≤ border_size (move_of c held s)) (IsOver c held s)

-- A look for a set: the chosen least set of d, with its certificate if certificates are wanted.
-- What is found is over that set, in c.
pub record IsLook (choice : Choice) (c d : Netlist) (held : List ℕ) (old new : Records) (found : Option Helping) : Type 0 where
  pub set : List ℕ
  pub chosen : IsChosen choice d held set
  pub adds : AddsOne d held old new set
  pub over : IsFoundOver c held set found

-- how many levels there are after the move over the set
abbrev pub levels_over : Netlist → List ℕ → List ℕ → ℕ
levels_over c held s = levels (moved_of (move_of c held s))

-- if there is a bound, what is found keeps it
abbrev pub KeepsBound : Option ℕ → Netlist → List ℕ → Option Helping → Type 0
KeepsBound None c held found = ⊤
KeepsBound (Some bound) c held None = ⊤
KeepsBound (Some bound) c held (Some found) = levels_over c held found.set ≤ bound

-- something is found, and makes a path longer than the bound
abbrev pub BreaksBound : ℕ → Netlist → List ℕ → Option Helping → Type 0
BreaksBound bound c held None = ⊥
BreaksBound bound c held (Some found) = bound < levels_over c held found.set

-- what becomes of what is found over the set by the first look
abbrev pub IsSetJudged : Option ℕ → Netlist → List ℕ → List ℕ → Option Helping → Judged → Type 0
IsSetJudged bound c held s first (Decided found) = IsFoundOver c held s found × KeepsBound bound c held found
IsSetJudged bound c held s first (TooLong most) = (bound ≡ Some most) × BreaksBound most c held first

-- the set that is found, which counts less than the known latches, the move over it, and the
-- frame's report
pub record Helps (options : Options) (bound : Option ℕ) (held : List ℕ) (c : Netlist) (found : Helping) : Type 0 where
  pub set : IsHelpingSetBy options bound held c found.set
  pub prepared : IsPrepared c held found.set found.prepared
  pub report : found.report ≡ report_over held c found.set

-- what is found in c, if anything helps; a certificate of the set is added if certificates are
-- wanted
pub record Finds (options : Options) (bound : Option ℕ) (held : List ℕ) (c : Netlist) (old new : Records) (result : Option Helping) : Type 0 where
  pub found : MatchOption result (NoneHelpsBy options bound held c) (Helps options bound held c)
  pub adds : AddsFound options bound held c old new

-- a frame over its set, which keeps the streams, says the positions of the held latches after it,
-- and leaves nothing to clean
pub record Moves (options : Options) (bound : Option ℕ) (held : List ℕ) (c : Netlist) (frame : Frame) : Type 0 where
  pub set : IsHelpingSetBy options bound held c frame.set
  pub cleaned : CleansTo (held_over held c frame.set) (moved_over held c frame.set) frame.cleaned.circuit frame.cleaned.kept_free frame.cleaned.keep
  pub moves : IsFrame bound options.choice held c frame.cleaned.circuit frame.cleaned.kept_free frame.cleaned.keep frame.report
  pub keeps : KeepsStreamsAndHeld held c frame.cleaned.circuit frame.cleaned.kept_free frame.cleaned.keep
