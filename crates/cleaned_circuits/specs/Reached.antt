-- The latches and gates that the properties of a circuit rest on.
use Rattle.std.specs.Prelude.{ℕ, ◌+◌, ◌≡◌, ◌||◌, nat_lt, Bool, true, List, Some, All}
use Rattle.aig_graph.specs.declared.graph.Gate.{Gate}
use Rattle.aig_graph.specs.declared.graph.Latch.{Latch}
use Rattle.aig_graph.specs.declared.properties.Props.{Props}
use Rattle.aig_graph.specs.Graph.{Graph, variable, first_latch, gate_at, latch_at}
use Rattle.aig_graph.specs.Streams.{property_literals}

-- whether a variable stays if the latches and gates of s do: the constant and inputs always do
abbrev pub stays : Graph → (ℕ → Bool) → ℕ → Bool
stays g s v = nat_lt v (first_latch g) || s v

-- a set of latches and gates with the held latches, and with each latch and gate that a property or
-- one of its own reads
pub record HoldsReads (g : Graph) (p : Props) (held : List ℕ) (s : ℕ → Bool) : Type 0 where
  pub all_held : All (λ j. s (first_latch g + j) ≡ true) held
  pub properties : All (λ lit. stays g s (variable lit) ≡ true) (property_literals p)
  pub gates : (v : ℕ) (gate : Gate) → gate_at g v ≡ Some gate → s v ≡ true → (stays g s (variable gate.rhs0) ≡ true) × (stays g s (variable gate.rhs1) ≡ true)
  pub latches : (v : ℕ) (latch : Latch) → latch_at g v ≡ Some latch → s v ≡ true → stays g s (variable latch.next) ≡ true

-- the least of these sets
pub record AreReached (g : Graph) (p : Props) (held : List ℕ) (s : ℕ → Bool) : Type 0 where
  pub holds : HoldsReads g p held s
  pub least : (r : ℕ → Bool) → HoldsReads g p held r → (v : ℕ) → s v ≡ true → r v ≡ true
