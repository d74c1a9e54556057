-- The graph of a lifted witness.
use Rattle.std.specs.Prelude.{ℕ, ◌≡◌, length, slice_get, Some, None}
use Rattle.aig_graph.specs.declared.graph.Latch.{Latch}
use Rattle.aig_graph.specs.declared.properties.Props.{Props}
use Rattle.aig_graph.specs.declared.properties.Symbols.{Symbols}
use Rattle.aig_graph.specs.Circuits.{Netlist}
use Rattle.aig_graph.specs.Graph.{Graph}
use Rattle.witness_circuits.specs.declared.sharing.Sharing.{Sharing}
use Rattle.witness_circuits.specs.Joining.{own_at}
use Rattle.witness_circuits.specs.declared.building.Built.{Built}
use Rattle.witness_circuits.specs.Lifting.{GoesAs, in_circuit, in_witness}
use Rattle.witness_circuits.specs.Parts.{AreLiftedProps, HasPlaces}

-- a graph whose latches go on as they should, and its properties
pub record IsFilled (h : Graph) (c m w : Netlist) (k : Sharing) (p : Props) : Type 0 where
  pub places : HasPlaces h c.aig k
  pub first : (j : ℕ) (latch : Latch) → slice_get c.aig.latches j ≡ Some latch → GoesAs h j latch (in_circuit c)
  pub own : (j : ℕ) (latch : Latch) → slice_get k.latches j ≡ Some None → slice_get w.aig.latches j ≡ Some latch
      → GoesAs h (own_at (length c.aig.latches) k.latches j) latch (in_witness c m w k)
  pub props : AreLiftedProps h c m w k p

-- a graph whose latches go on as they should, with its properties
abbrev pub IsBuilt : Netlist → Netlist → Netlist → Sharing → Built → Type 0
IsBuilt c m w k b = IsFilled b.gates c m w k b.props

-- the graph and its properties with these names
abbrev pub circuit_of : Built → Symbols → Netlist
circuit_of b symbols = record { aig = b.gates; props = b.props; symbols = symbols }
