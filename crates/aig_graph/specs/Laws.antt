-- Laws of the value of a literal, of equal streams, and of closed sets.
use Rattle.std.specs.Prelude.{ℕ, ◌+◌, ◌*◌, ◌<◌, ◌≡◌, ◌↔◌, ◌⊎◌, false, not, ◌&&◌, ◌||◌, List, [], map, slice_get, slice_index, Some, IsTrue}
use Rattle.std.specs.List.{range_with_len}
use Rattle.aig_graph.specs.Counting.{count_below}
use Rattle.aig_graph.specs.Marking.{has}
use Rattle.aig_graph.specs.declared.graph.Gate.{Gate}
use Rattle.aig_graph.specs.declared.graph.Latch.{Latch}
use Rattle.aig_graph.specs.Graph.{Graph, variable, first_latch, first_gate, variables_end, latch_at, gate_at, is_known, free_before, free_latches}
use Rattle.aig_graph.specs.Value.{Inputs, Choice, value, opening}
use Rattle.aig_graph.specs.Circuits.{Netlist}
use Rattle.aig_graph.specs.Streams.{SameStreams}
use Rattle.aig_graph.specs.Closed.{is_held, may_move, IsPassable, IsClosedSet}
use Rattle.aig_graph.specs.Move.{move_of}
use Rattle.aig_graph.specs.Border.{is_read, in_border, border_size, IsGreatestLeast, IsSmallestLeast}

-- the values of the constant, inputs, latches at step 0 and later, gates and negated literals
pub record ValueLaws (g : Graph) (x : Inputs) (f : Choice) : Type 0 where
  pub constant : (t : ℕ) → value g x f t 0 ≡ false
  pub input : (t i : ℕ) → i < g.inputs → value g x f t (2 * (1 + i)) ≡ x t i
  pub latch_at_start : (j : ℕ) (latch : Latch) → slice_get g.latches j ≡ Some latch
      → value g x f 0 (2 * (first_latch g + j)) ≡ opening latch.reset (f (free_before g j))
  pub latch_later : (t j : ℕ) (latch : Latch) → slice_get g.latches j ≡ Some latch
      → value g x f (t + 1) (2 * (first_latch g + j)) ≡ value g x f t latch.next
  pub gate : (t k : ℕ) (gate : Gate) → slice_get g.gates k ≡ Some gate
      → value g x f t (2 * (first_gate g + k)) ≡ (value g x f t gate.rhs0 && value g x f t gate.rhs1)
  pub negation : (t v : ℕ) → value g x f t (2 * v + 1) ≡ not (value g x f t (2 * v))

-- every place among the free latches
abbrev pub all_free : Graph → List ℕ
all_free g = range_with_len 0 (free_latches g)

-- the places in a first list that a second list names
abbrev pub composed : List ℕ → List ℕ → List ℕ
composed first second = map (slice_index first) second

-- a circuit has its own streams
abbrev pub IsReflexive : Netlist → Type 0
IsReflexive c = SameStreams c c (all_free c.aig)

-- equal streams compose, and so do the lists of kept free latches
abbrev pub IsTransitive : Netlist → Netlist → Netlist → List ℕ → List ℕ → Type 0
IsTransitive c d e first second = SameStreams c d first → SameStreams d e second → SameStreams c e (composed first second)

-- a known latch that isn't held, or a passable gate
abbrev pub MayMoveOrPassable : Graph → List ℕ → ℕ → Type 0
MayMoveOrPassable g held v = IsTrue (may_move g held v) ⊎ IsPassable g held v

-- a gate is passable exactly if each fan-in is a known latch that isn't held, or a passable gate
abbrev pub PassableLaw : Graph → List ℕ → ℕ → Type 0
PassableLaw g held v =
    IsPassable g held v
    ↔ ((gate : Gate) × (gate_at g v ≡ Some gate) × MayMoveOrPassable g held (variable gate.rhs0) × MayMoveOrPassable g held (variable gate.rhs1))

-- the border of the empty set: the known latches that are held or read
pub record EmptySetLaws (c : Netlist) (held : List ℕ) : Type 0 where
  pub closed : IsClosedSet c.aig held []
  pub count : border_size (move_of c held [])
      ≡ count_below (λ v. is_known (latch_at c.aig v) && (is_held c.aig held v || is_read c [] v)) (variables_end c.aig)

-- the border of a closed set: known latches and members that are held or read from outside
abbrev pub ClosedBorderLaw : Netlist → List ℕ → List ℕ → ℕ → Type 0
ClosedBorderLaw c held s v =
    IsClosedSet c.aig held s → in_border (move_of c held s) v ≡ ((is_known (latch_at c.aig v) || has s v) && (is_held c.aig held v || is_read c s v))

-- there is at most one greatest least set, and one smallest
pub record AtMostOne (c : Netlist) (held s r : List ℕ) : Type 0 where
  pub greatest : IsGreatestLeast c held s → IsGreatestLeast c held r → s ≡ r
  pub smallest : IsSmallestLeast c held s → IsSmallestLeast c held r → s ≡ r
