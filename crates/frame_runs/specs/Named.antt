-- The latches that options hold, by their names and by their positions.
use Rattle.std.specs.Prelude.{ℕ, List, length}
use Rattle.aig_graph.specs.Circuits.{Netlist}
use Rattle.aig_graph.specs.Keep.{AreLatches, Holding, IsFirstMissing, IsFirstNoLatch, NoneMissing, held_of, names_of}
use Rattle.frame_runs.specs.declared.options.Options.{Options}

-- the names that the options hold
abbrev pub names_in : Options → List (List ℕ)
names_in options = names_of options.keep.items

-- which latches the options ask to be held
abbrev pub holding_in : Options → Holding
holding_in options = record { names = names_in options; positions = options.keep_latches.items }

-- the positions of the latches that the options hold
abbrev pub kept_by : Options → Netlist → List ℕ
kept_by options c = held_of (holding_in options) c

-- each of the options' names is that of a latch
abbrev pub NoneMissingBy : Options → Netlist → Type 0
NoneMissingBy options c = NoneMissing (names_in options) c

-- the name at this place is the first of the options' names that no latch has
abbrev pub IsFirstMissingBy : Options → Netlist → ℕ → Type 0
IsFirstMissingBy options c place = IsFirstMissing (names_in options) c place

-- each of the options' positions is that of a latch
abbrev pub AreLatchesBy : Options → Netlist → Type 0
AreLatchesBy options c = AreLatches (length c.aig.latches) options.keep_latches.items

-- the position at this place is the first of the options' positions at which no latch is
abbrev pub IsFirstNoLatchBy : Options → Netlist → ℕ → Type 0
IsFirstNoLatchBy options c place = IsFirstNoLatch (length c.aig.latches) options.keep_latches.items place
