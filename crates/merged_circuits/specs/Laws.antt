-- Laws of merging latches.
use Rattle.std.specs.Prelude.{ℕ, ◌<◌, ◌≡◌, List, length}
use Rattle.aig_graph.specs.Graph.{Graph, IsGraph}
use Rattle.aig_graph.specs.Circuits.{Netlist, IsNetlist}
use Rattle.aig_graph.specs.Laws.{all_free}
use Rattle.aig_graph.specs.Streams.{SameStreams}
use Rattle.aig_graph.specs.Value.{Inputs, Choice, value}
use Rattle.certificates.specs.declared.merged.MergedLatch.{MergedLatch}
use Rattle.merged_circuits.specs.Readings.{own_literal, read}
use Rattle.merged_circuits.specs.Inductive.{IsInductive, IsMergedBy}
use Rattle.merged_circuits.specs.Lines.{IsSaidBy}
use Rattle.merged_circuits.specs.Shown.{IsShown}

-- by a reading that steps preserve, each latch has at each step the value of its reading
abbrev pub HasItsValue : Graph → List ℕ → List ℕ → Type 0
HasItsValue g held reads =
    IsGraph g → IsInductive g held reads → (x : Inputs) (f : Choice) (t j : ℕ) → j < length g.latches → value g x f t (read reads j) ≡ value g x f t (own_literal g j)

-- merging by such a reading keeps the streams, with each free latch in its place
abbrev pub KeepsStreams : List ℕ → List ℕ → Netlist → Netlist → Type 0
KeepsStreams held reads c d = IsGraph c.aig → IsNetlist c → IsMergedBy held reads c d → SameStreams c d (all_free c.aig)

-- steps preserve a reading that is shown in the merged graph alone
abbrev pub ShownInductive : Graph → List ℕ → List ℕ → Type 0
ShownInductive g held reads = IsGraph g → IsShown g held reads → IsInductive g held reads

-- two readings that one list of lines says are one
abbrev pub SaysOneReading : Graph → List MergedLatch → List ℕ → List ℕ → Type 0
SaysOneReading g lines reads other = IsSaidBy g lines reads → IsSaidBy g lines other → reads ≡ other
