-- Circuits whose latches were moved backward.
use Rattle.std.specs.Prelude.{ℕ, ◌+◌, ◌*◌, ◌<◌, ◌≤◌, ◌≡◌, max, List, length, slice_get, Option, Some, None, All, Contains}
use Rattle.aig_graph.specs.declared.graph.Latch.{Latch}
use Rattle.aig_graph.specs.declared.properties.Symbol.{Symbol}
use Rattle.aig_graph.specs.Circuits.{Netlist}
use Rattle.aig_graph.specs.Laws.{all_free}
use Rattle.aig_graph.specs.Streams.{SameStreams}
use Rattle.path_levels.specs.Levels.{levels}
use Rattle.state_maps.specs.MapCircuits.{FreeStay, IsMapCircuit}

-- output k of the map m is this latch of d, which starts as latch k of c does
pub record IsHeldAt (c d m : Netlist) (k place : ℕ) : Type 0 where
  pub before : Latch
  pub after : Latch
  pub here : slice_get c.aig.latches k ≡ Some before
  pub there : slice_get d.aig.latches place ≡ Some after
  pub output : slice_get m.props.outputs k ≡ Some (2 * (1 + place))
  pub reset : after.reset ≡ before.reset

-- it is so of some latch of d
abbrev pub IsHeldBack : Netlist → Netlist → Netlist → ℕ → Type 0
IsHeldBack c d m k = (place : ℕ) × IsHeldAt c d m k place

-- it is so, if there is a latch k
abbrev pub IsHeldBackIn : Netlist → Netlist → Netlist → ℕ → Type 0
IsHeldBackIn c d m k = k < length c.aig.latches → IsHeldBack c d m k

-- the output at the position of a name of c is a latch of d with that name
abbrev pub IsNamedBack : Netlist → Netlist → Symbol → Type 0
IsNamedBack d m s = (place : ℕ) × (slice_get m.props.outputs s.position ≡ Some (2 * (1 + place))) × Contains d.symbols.latches (record s { position = place })

-- each held latch is a latch of d, with its reset and its name
pub record AreHeldBack (held : List ℕ) (c d m : Netlist) : Type 0 where
  pub latches : All (IsHeldBackIn c d m) held
  pub names : All (λ s. Contains held s.position → IsNamedBack d m s) c.symbols.latches

-- if there is a bound, no path of d is longer than that, or than the longest of c
abbrev pub IsWithin : Option ℕ → Netlist → Netlist → Type 0
IsWithin None c d = Unit {0}
IsWithin (Some bound) c d = levels d ≤ max bound (levels c)

-- A map of d's states to those of c, with each free latch of c, which is one of d as it is. So d
-- has the streams of c.
pub record IsMapBack (c d m : Netlist) : Type 0 where
  pub streams : SameStreams c d (all_free c.aig)
  pub map : IsMapCircuit d c (all_free d.aig) m
  pub free : FreeStay d c m

-- no more latches, and held ones have stayed
pub record IsFit (c : Netlist) (held : List ℕ) (d m : Netlist) : Type 0 where
  pub fewer : length d.aig.latches ≤ length c.aig.latches
  pub held_back : AreHeldBack held c d m

-- d does what c does, by no more latches; m maps its states to those of c, and held latches have
-- stayed
pub record IsMovedBack (c : Netlist) (held : List ℕ) (bound : Option ℕ) (d m : Netlist) : Type 0 where
  pub turned : IsMapBack c d m
  pub fit : IsFit c held d m
  pub within : IsWithin bound c d
