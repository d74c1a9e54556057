-- Laws of the order.
use Rattle.std.specs.Prelude.{ℕ, ◌<◌, ◌≡◌, ◌↔◌, List, length, slice_get, Contains, Some, None}
use Rattle.std.specs.List.{range_with_len}
use Rattle.ascii_file.specs.declared.order.reads.Reads.{Reads}
use Rattle.ascii_file.specs.order.Order.{IsOrder, IsInOrder, AreReadsInFile, ordered}
use Rattle.ascii_file.specs.order.Cycles.{ReadsGate, HasCycle}

-- what is computed is the order
abbrev pub OrderedLaw : List Reads → List ℕ → Type 0
OrderedLaw gates order = (ordered gates ≡ Some order) ↔ IsOrder gates order

-- there is at most one order
abbrev pub HasAtMostOneOrder : List Reads → List ℕ → List ℕ → Type 0
HasAtMostOneOrder gates first second = IsOrder gates first → IsOrder gates second → first ≡ second

-- each gate of the file stands at a place, and at one alone
pub record StandsOnce (order : List ℕ) (g : ℕ) : Type 0 where
  pub stands : Contains order g
  pub alone : (i j : ℕ) → slice_get order i ≡ Some g → slice_get order j ≡ Some g → i ≡ j

-- each gate of the file stands at just one place of the order
abbrev pub HasEachGateOnce : List Reads → List ℕ → Type 0
HasEachGateOnce gates order = IsOrder gates order → (g : ℕ) → g < length gates → StandsOnce order g

-- what a gate reads stands at a place below
abbrev pub ReadsBefore : List Reads → List ℕ → Type 0
ReadsBefore gates order =
    IsOrder gates order → (k g h : ℕ) → slice_get order k ≡ Some g → ReadsGate gates g h → (j : ℕ) × (j < k) × (slice_get order j ≡ Some h)

-- none is computed exactly if there is a cycle
abbrev pub CycleLaw : List Reads → Type 0
CycleLaw gates = AreReadsInFile gates → ((ordered gates ≡ None) ↔ HasCycle gates)

-- there is an order exactly if there is no cycle
abbrev pub ExistsLaw : List Reads → Type 0
ExistsLaw gates = AreReadsInFile gates → (((order : List ℕ) × IsOrder gates order) ↔ ¬ HasCycle gates)

-- a file in order keeps its order
abbrev pub KeepsOrder : List Reads → Type 0
KeepsOrder gates = IsInOrder gates → IsOrder gates (range_with_len 0 (length gates))
