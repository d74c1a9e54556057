-- Frames, one after another: each moves latches over the set that is found, and cleans. Paths may
-- have any length, or a bound limits it. Held latches are known by their positions, which each
-- frame hands on.
use Rattle.std.specs.Prelude.{ℕ, suc, ◌≡◌, ◌<◌, ◌≤◌, ◌++◌, List, [], ◌∷◌, length, Option, Some, None}
use Rattle.aig_graph.specs.Graph.{known_latches}
use Rattle.aig_graph.specs.Circuits.{Netlist}
use Rattle.aig_graph.specs.Closed.{IsClosedSet}
use Rattle.aig_graph.specs.Move.{move_of}
use Rattle.aig_graph.specs.Border.{border_size}
use Rattle.aig_graph.specs.Laws.{composed}
use Rattle.aig_graph.specs.declared.choice.Choice.{Choice}
use Rattle.aig_graph.specs.Chosen.{IsChosen}
use Rattle.path_levels.specs.Levels.{levels}
use Rattle.path_levels.specs.Arrivals.{IsChosenWithin, IsClosedWithin}
use Rattle.rebuild.specs.Moved.{moved_held, moved_of}
use Rattle.cleaned_circuits.specs.Cleaned.{Cleans}
use Rattle.cleaned_circuits.specs.Held.{HeldAfter}
use Rattle.retimed_circuits.specs.declared.report.FrameReport.{FrameReport}

-- the number of known latches of c right after the move over the set, with these latches held
abbrev pub count_over : List ℕ → Netlist → List ℕ → ℕ
count_over held c s = border_size (move_of c held s)

-- c with its latches moved over the set, but for the held ones
abbrev pub moved_over : List ℕ → Netlist → List ℕ → Netlist
moved_over held c s = moved_of (move_of c held s)

-- the positions of the held latches after the move
abbrev pub held_over : List ℕ → Netlist → List ℕ → List ℕ
held_over held c s = moved_held (move_of c held s)

-- d is c cleaned, with these latches held, which are at the positions `now` in d. kept has the
-- places of the free latches that stay.
pub record CleansTo (held : List ℕ) (c d : Netlist) (kept now : List ℕ) : Type 0 where
  pub cleans : Cleans d held c kept
  pub held_after : HeldAfter d now held c

-- the known latches before, the set's count, and the number of its gates
abbrev pub report_over : List ℕ → Netlist → List ℕ → FrameReport
report_over held c s = record { before = known_latches c.aig; after = count_over held c s; moved = length s }

-- the chosen least set, if it counts less than c has known latches and makes a path longer than the
-- bound
pub record IsTooLong (bound : ℕ) (choice : Choice) (held : List ℕ) (c : Netlist) (s : List ℕ) : Type 0 where
  pub chosen : IsChosen choice c held s
  pub fewer : count_over held c s < known_latches c.aig
  pub longer : bound < levels (moved_over held c s)

-- The set that is found in c under a bound: the chosen least set, unless that is too long.
-- Otherwise it is the chosen one of those whose gates arrive within the bound.
pub data IsFoundWithin (bound : ℕ) (choice : Choice) (held : List ℕ) (c : Netlist) : List ℕ → Type 0 where
  found_whole : (s : List ℕ) → IsChosen choice c held s → (count_over held c s < known_latches c.aig → levels (moved_over held c s) ≤ bound)
      → IsFoundWithin bound choice held c s
  found_within : (r s : List ℕ) → IsTooLong bound choice held c r → IsChosenWithin bound choice c held s → IsFoundWithin bound choice held c s

-- the set that is found in c, whether it helps or not; without a bound the chosen least set
abbrev pub IsFound : Option ℕ → Choice → List ℕ → Netlist → List ℕ → Type 0
IsFound None choice held c s = IsChosen choice c held s
IsFound (Some bound) choice held c s = IsFoundWithin bound choice held c s

-- s is the set that is found in c, and counts less than c has known latches
pub record IsHelpingSet (bound : Option ℕ) (choice : Choice) (held : List ℕ) (c : Netlist) (s : List ℕ) : Type 0 where
  pub found : IsFound bound choice held c s
  pub fewer : count_over held c s < known_latches c.aig

-- d is c with its latches moved over the set that is found in c, which counts less than c has known
-- latches, and cleaned. The held latches are at the positions `now` in d.
pub record IsFrame (bound : Option ℕ) (choice : Choice) (held : List ℕ) (c d : Netlist) (kept now : List ℕ) (report : FrameReport) : Type 0 where
  pub set : List ℕ
  pub helps : IsHelpingSet bound choice held c set
  pub cleaned : CleansTo (held_over held c set) (moved_over held c set) d kept now
  pub reported : report ≡ report_over held c set

-- The circuit is cleaned, and this is what n frames make of it. kept has the places of the free
-- latches that are left among the first ones, and now the positions of the held latches.
pub data AfterFrames (bound : Option ℕ) (choice : Choice) (held : List ℕ) (c : Netlist) : ℕ → Netlist → List ℕ → List ℕ → List FrameReport → Type 0 where
  cleaned : (d : Netlist) (kept now : List ℕ) → CleansTo held c d kept now → AfterFrames bound choice held c 0 d kept now []
  frame : (n : ℕ) (d e : Netlist) (kept left now later : List ℕ) (reports : List FrameReport) (report : FrameReport)
      → AfterFrames bound choice held c n d kept now reports → IsFrame bound choice now d e left later report
      → AfterFrames bound choice held c (suc n) e (composed kept left) later (reports ++ report ∷ [])

-- no closed set counts less than c has known latches
abbrev pub NoneSmaller : List ℕ → Netlist → Type 0
NoneSmaller held c = (s : List ℕ) → IsClosedSet c.aig held s → known_latches c.aig ≤ count_over held c s

-- none does whose gates arrive within the bound
abbrev pub NoneSmallerWithin : ℕ → List ℕ → Netlist → Type 0
NoneSmallerWithin bound held c = (s : List ℕ) → IsClosedWithin bound c.aig held s → known_latches c.aig ≤ count_over held c s

-- none does whose gates arrive within the bound, and if the chosen least set does, it makes a path
-- longer than the bound
pub record NoneKeepsBound (bound : ℕ) (choice : Choice) (held : List ℕ) (c : Netlist) : Type 0 where
  pub none_within : NoneSmallerWithin bound held c
  pub longer : (s : List ℕ) → IsChosen choice c held s → count_over held c s < known_latches c.aig → bound < levels (moved_over held c s)

-- no set makes c's known latches fewer: without a bound no closed set, with one none of either kind
-- that keeps the bound
abbrev pub NoneHelps : Option ℕ → Choice → List ℕ → Netlist → Type 0
NoneHelps None choice held c = NoneSmaller held c
NoneHelps (Some bound) choice held c = NoneKeepsBound bound choice held c
