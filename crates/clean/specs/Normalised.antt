-- Circuits in which nothing is left to clean.
-- A moved circuit has the gates outside the set, and then the copies. A copy is low if it reads a
-- variable that is no copy.
use Rattle.std.specs.Prelude.{ℕ, ◌+◌, ◌<◌, ◌≤◌, ◌≡◌, Bool, true, false, List, Some, slice_get}
use Rattle.aig_graph.specs.declared.graph.Gate.{Gate}
use Rattle.aig_graph.specs.declared.graph.Latch.{Latch}
use Rattle.aig_graph.specs.Graph.{Graph, variable, first_latch, first_gate, variables_end, is_free}
use Rattle.aig_graph.specs.Circuits.{Netlist}
use Rattle.aig_graph.specs.Marking.{has}
use Rattle.cleaned_circuits.specs.Latches.{is_constant_latch}
use Rattle.cleaned_circuits.specs.Reached.{HoldsReads}

-- two variables, neither the constant; the larger literal is first
pub record IsPlain (gate : Gate) : Type 0 where
  pub constant : 2 ≤ gate.rhs1
  pub apart : variable gate.rhs1 < variable gate.rhs0

-- Each latch and gate is reached. No known latch that isn't held is constant or a duplicate of an
-- earlier one. Each gate has a pair of its own.
pub record IsNormalised (held : List ℕ) (c : Netlist) : Type 0 where
  pub reached : (r : ℕ → Bool) → HoldsReads c.aig c.props held r → (v : ℕ) → first_latch c.aig ≤ v → v < variables_end c.aig → r v ≡ true
  pub moving : (j : ℕ) (latch : Latch) → slice_get c.aig.latches j ≡ Some latch → is_constant_latch c.aig held j latch ≡ false
  pub single : (i j : ℕ) (latch : Latch) → i < j → slice_get c.aig.latches i ≡ Some latch → slice_get c.aig.latches j ≡ Some latch → is_free latch ≡ false → has held j ≡ true
  pub plain : (k : ℕ) (gate : Gate) → slice_get c.aig.gates k ≡ Some gate → IsPlain gate
  pub pairs : (i j : ℕ) (gate : Gate) → slice_get c.aig.gates i ≡ Some gate → slice_get c.aig.gates j ≡ Some gate → i ≡ j

-- each low copy, a gate from number first on that reads a variable before those, is plain, and its
-- pair is its own
pub record AreLowNormalised (g : Graph) (first : ℕ) : Type 0 where
  pub plain : (k : ℕ) (gate : Gate) → first ≤ k → slice_get g.gates k ≡ Some gate → variable gate.rhs1 < first_gate g + first → IsPlain gate
  pub pairs : (i k : ℕ) (gate : Gate) → first ≤ k → slice_get g.gates i ≡ Some gate → slice_get g.gates k ≡ Some gate → variable gate.rhs1 < first_gate g + first → i ≡ k
