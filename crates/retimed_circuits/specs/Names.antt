-- The held latches of a circuit, by their names or by their positions.
use Rattle.std.specs.Prelude.{ℕ, ◌≡◌, ◌==◌, true, List, All, map, filter, Option, Some, None, slice_get}
use Rattle.aig_graph.specs.Marking.{has}
use Rattle.aig_graph.specs.declared.graph.Latch.{Latch}
use Rattle.aig_graph.specs.declared.graph.Reset.{Reset}
use Rattle.aig_graph.specs.declared.properties.Symbol.{Symbol}
use Rattle.aig_graph.specs.Graph.{Graph}
use Rattle.aig_graph.specs.Circuits.{Netlist}
use Rattle.aig_graph.specs.Keep.{held_in, is_named}

abbrev pub reset_of : Option Latch → Option Reset
reset_of None = None
reset_of (Some latch) = Some latch.reset

-- a latch that is held, by its name and reset
pub record HeldLatch : Type 0 where
  pub name : List ℕ
  pub reset : Option Reset

abbrev pub held_latch : Graph → Symbol → HeldLatch
held_latch g symbol = record { name = symbol.name; reset = reset_of (slice_get g.latches symbol.position) }

-- the latches that the names hold, in order
unfoldable pub held_latches : List (List ℕ) → Netlist → List HeldLatch
held_latches names c = map (held_latch c.aig) (filter (is_named names) c.symbols.latches)

-- a latch that is held, named or not: the names of its position, of which there is one at most, and
-- its reset
pub record PlacedLatch : Type 0 where
  pub names : List (List ℕ)
  pub reset : Option Reset

-- the names of a latch's position
unfoldable pub names_at : List Symbol → ℕ → List (List ℕ)
names_at symbols j = map (λ s. s.name) (filter (λ s. s.position == j) symbols)

-- the latch at a position: its names there, and its reset
abbrev pub latch_placed : Netlist → ℕ → PlacedLatch
latch_placed c j = record { names = names_at c.symbols.latches j; reset = reset_of (slice_get c.aig.latches j) }

-- what stands at these positions
abbrev pub latches_at : List ℕ → Netlist → List PlacedLatch
latches_at held c = map (latch_placed c) held

-- each latch that has one of the names is held
abbrev pub Covers : List (List ℕ) → List ℕ → Netlist → Type 0
Covers names held c = All (λ j. has held j ≡ true) (held_in names c)

-- d has at `now` the latches that c has at `held`, with names and resets. Names that hold none but
-- these hold the same in both. If they hold just these in c, they do in d.
pub record StayHeld (held : List ℕ) (c : Netlist) (now : List ℕ) (d : Netlist) : Type 0 where
  pub stay : latches_at now d ≡ latches_at held c
  pub named : (names : List (List ℕ)) → Covers names held c → held_latches names d ≡ held_latches names c
  pub covers : (names : List (List ℕ)) → Covers names held c → Covers names now d
  pub exact : (names : List (List ℕ)) → held ≡ held_in names c → now ≡ held_in names d
