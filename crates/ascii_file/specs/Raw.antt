-- A circuit by its file's own literals.
use Rattle.std.specs.Prelude.{ℕ, ◌+◌, List, [], ◌∷◌, ◌++◌, map}
use Rattle.std.specs.List.{sum, flat_map}
use Rattle.aig_graph.specs.Graph.{variable}
use Rattle.ascii_file.specs.declared.header.Header.{Header}
use Rattle.ascii_file.specs.declared.raw.RawLatch.{RawLatch}
use Rattle.ascii_file.specs.declared.raw.RawGate.{RawGate}
use Rattle.ascii_file.specs.declared.raw.SymbolKind.{SymbolKind}
use Rattle.ascii_file.specs.declared.raw.SymbolKind.TheVariants.{Input, Latch, Output, Bad, Constraint, Justice, Fairness}

-- the name of what stands at a position, counted from 0, of its kind
pub record RawSymbol : Type 0 where
  pub kind : SymbolKind
  pub position : ℕ
  pub name : List ℕ

-- what the lines of each section say; safety has the literals of outputs, bad states and
-- constraints, liveness those of justice properties and of fairness
pub record Raw : Type 0 where
  pub inputs : List ℕ
  pub latches : List RawLatch
  pub safety : List ℕ
  pub sizes : List ℕ
  pub liveness : List ℕ
  pub gates : List RawGate
  pub symbols : List RawSymbol

-- a raw circuit of which nothing was read
abbrev pub nothing_yet : Raw
nothing_yet = record { inputs = []; latches = []; safety = []; sizes = []; liveness = []; gates = []; symbols = [] }

-- the variables that the lines define, in file order
abbrev pub defined : Raw → List ℕ
defined raw = map variable raw.inputs ++ map (λ latch. variable latch.current) raw.latches ++ map (λ gate. variable gate.lhs) raw.gates

-- the literals of latches, properties and gates that are read
abbrev pub read_literals : Raw → List ℕ
read_literals raw = map (λ latch. latch.next) raw.latches ++ raw.safety ++ raw.liveness ++ flat_map (λ gate. gate.rhs0 ∷ gate.rhs1 ∷ []) raw.gates

-- how many outputs, bad states and constraints there are
abbrev pub safety_count : Header → ℕ
safety_count h = h.outputs + h.bad + h.constraints

abbrev pub liveness_count : Header → Raw → ℕ
liveness_count h raw = sum raw.sizes + h.fairness

-- how many things of a kind a symbol may name
abbrev pub count_of : Header → SymbolKind → ℕ
count_of h Input = h.inputs
count_of h Latch = h.latches
count_of h Output = h.outputs
count_of h Bad = h.bad
count_of h Constraint = h.constraints
count_of h Justice = h.justice
count_of h Fairness = h.fairness

-- the kinds of symbols, numbered in the order of their sections
abbrev pub kind_number : SymbolKind → ℕ
kind_number Input = 0
kind_number Latch = 1
kind_number Output = 2
kind_number Bad = 3
kind_number Constraint = 4
kind_number Justice = 5
kind_number Fairness = 6
