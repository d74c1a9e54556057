-- Circuits whose registers were moved on: forward over gates, past their enables and resets.
use Rattle.std.specs.Prelude.{ℕ, ◌+◌, ◌*◌, ◌<◌, ◌≡◌, List, length, slice_get, Option, Some, All, Contains}
use Rattle.aig_graph.specs.declared.properties.Symbol.{Symbol}
use Rattle.aig_graph.specs.Circuits.{Netlist}
use Rattle.aig_graph.specs.Graph.{known_latches}
use Rattle.aig_graph.specs.Streams.{SameStreams}
use Rattle.state_maps.specs.MapCircuits.{FreeStay, IsMapCircuit}
use Rattle.backward_circuits.specs.Drawn.{HasOtherLatches}
use Rattle.backward_circuits.specs.MovedBack.{IsHeldAt, IsWithin}

-- latch k of c, if there is one, is an output of the map m from c to d. The latch of d there starts
-- as it does.
abbrev pub IsHeldOn : Netlist → Netlist → Netlist → ℕ → Type 0
IsHeldOn c d m k = k < length c.aig.latches → (place : ℕ) × IsHeldAt d c m place k

-- the latch with a name of c is an output of the map, and the latch of d there has that name
abbrev pub IsNamedOn : Netlist → Netlist → Symbol → Type 0
IsNamedOn d m s = (place : ℕ) × (slice_get m.props.outputs place ≡ Some (2 * (1 + s.position))) × Contains d.symbols.latches (record s { position = place })

-- each held latch is a latch of d, with its reset and its name
pub record AreHeldOn (held : List ℕ) (c d m : Netlist) : Type 0 where
  pub latches : All (IsHeldOn c d m) held
  pub names : All (λ s. Contains held s.position → IsNamedOn d m s) c.symbols.latches

-- d does what c does, from the free latches of c that it has: each is one as it is, in their order.
-- The map m turns the states of c into those of d.
pub record IsMapOn (c d m : Netlist) : Type 0 where
  pub kept : List ℕ
  pub map : IsMapCircuit c d kept m
  pub streams : SameStreams c d kept
  pub free : FreeStay c d m

-- d does what c does with fewer known latches, and has c's names but for latches. Held latches
-- stay, and no path is longer than both a bound and c's longest.
pub record IsMovedOn (c : Netlist) (held : List ℕ) (bound : Option ℕ) (d m : Netlist) : Type 0 where
  pub mapped : IsMapOn c d m
  pub names : HasOtherLatches c d
  pub fewer : known_latches d.aig < known_latches c.aig
  pub held_on : AreHeldOn held c d m
  pub within : IsWithin bound c d
