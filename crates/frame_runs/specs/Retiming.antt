-- What options make of a circuit.
use Rattle.std.specs.Prelude.{ℕ, ◌≡◌, ◌<◌, All, Bool, true, false, List, Option, MatchOption, length}
use Rattle.aig_graph.specs.Circuits.{Netlist}
use Rattle.aig_graph.specs.Keep.{Holding}
use Rattle.aig_graph.specs.Streams.{SameStreams}
use Rattle.aig_graph.specs.declared.choice.Choice.{Choice}
use Rattle.clean.specs.declared.cleaning.Cleaned.{Cleaned}
use Rattle.retimed_circuits.specs.declared.report.Retimed.{Retimed}
use Rattle.retimed_circuits.specs.Frames.{CleansTo, IsHelpingSet, NoneHelps, held_over, moved_over}
use Rattle.retimed_circuits.specs.Names.{StayHeld}
use Rattle.retimed_circuits.specs.Retiming.{IsRetimedOver, IsRetimedWith}
use Rattle.clean.specs.Normalised.{IsNormalised}
use Rattle.frame_runs.specs.declared.options.Options.{Options}
use Rattle.frame_runs.specs.Bounds.{bound_in}
use Rattle.frame_runs.specs.Merging.{IsMergedAsGiven}
use Rattle.frame_runs.specs.Named.{holding_in}

-- r is c retimed by the options
abbrev pub IsRetimedBy : Options → Netlist → Retimed → Type 0
IsRetimedBy options c r = IsRetimedWith options.merge (bound_in options c) options.choice c (holding_in options) options.max_frames options.certify r

-- the positions at which the held latches stand in what a circuit is retimed to
abbrev pub held_at_end : (merge : Bool) (bound : Option ℕ) (choice : Choice) (c : Netlist) (holding : Holding) (max_frames : ℕ) (certify : Bool) (r : Retimed)
    → IsRetimedWith merge bound choice c holding max_frames certify r → List ℕ
held_at_end false bound choice c holding max_frames certify r is = is.run.now
held_at_end true bound choice c holding max_frames certify r is = is.retimed.now

-- c is retimed so to r, and its held latches stand at now
pub record IsRetimedTo (merge : Bool) (bound : Option ℕ) (choice : Choice) (c : Netlist) (holding : Holding) (max_frames : ℕ) (certify : Bool) (r : Retimed) (now : List ℕ) : Type 0 where
  pub retimed : IsRetimedWith merge bound choice c holding max_frames certify r
  pub held : now ≡ held_at_end merge bound choice c holding max_frames certify r retimed

-- so by the options; the latches that were merged are those that they have, if any
pub record IsRetimedHeld (options : Options) (c : Netlist) (r : Retimed) (now : List ℕ) : Type 0 where
  pub retimed : IsRetimedBy options c r
  pub held : now ≡ held_at_end options.merge (bound_in options c) options.choice c (holding_in options) options.max_frames options.certify r retimed
  pub given : IsMergedAsGiven options r

-- c retimed under this bound, with the latches at these positions held, without merging, whatever
-- the options say of that
abbrev pub IsRetimedAsIs : Options → Option ℕ → Netlist → List ℕ → Retimed → Type 0
IsRetimedAsIs options bound c held r = IsRetimedOver bound options.choice c held options.max_frames options.certify r

-- no set that keeps the bound makes c's known latches fewer
abbrev pub NoneHelpsBy : Options → Option ℕ → List ℕ → Netlist → Type 0
NoneHelpsBy options bound held c = NoneHelps bound options.choice held c

-- s is the set that is found in c, and counts less than c has known latches
abbrev pub IsHelpingSetBy : Options → Option ℕ → List ℕ → Netlist → List ℕ → Type 0
IsHelpingSetBy options bound held c s = IsHelpingSet bound options.choice held c s

-- What the next frame of c takes: the set that is found, if it counts less than c has known
-- latches. None if no set makes them fewer.
abbrev pub IsNextSet : Options → Option ℕ → List ℕ → Netlist → Option (List ℕ) → Type 0
IsNextSet options bound held c set = MatchOption set (NoneHelpsBy options bound held c) (IsHelpingSetBy options bound held c)

-- d has c's streams, its held latches are at the positions `now` in d, and nothing is left to clean
-- there. kept has the places of the free latches that stay.
pub record KeepsStreamsAndHeld (held : List ℕ) (c d : Netlist) (kept now : List ℕ) : Type 0 where
  pub streams : SameStreams c d kept
  pub stays : StayHeld held c now d
  pub in_range : All (λ j. j < length d.aig.latches) now
  pub normalised : IsNormalised now d

-- d is c cleaned, with the latches at these positions held
pub record IsCleanedBy (held : List ℕ) (c : Netlist) (d : Cleaned) : Type 0 where
  pub cleaned : CleansTo held c d.circuit d.kept_free d.keep
  pub keeps : KeepsStreamsAndHeld held c d.circuit d.kept_free d.keep

-- d is c with its latches moved over the set, and cleaned
pub record IsMovedBy (held : List ℕ) (c : Netlist) (set : List ℕ) (d : Cleaned) : Type 0 where
  pub cleaned : CleansTo (held_over held c set) (moved_over held c set) d.circuit d.kept_free d.keep
  pub keeps : KeepsStreamsAndHeld held c d.circuit d.kept_free d.keep
