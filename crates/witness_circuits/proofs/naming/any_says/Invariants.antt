use Rattle.std.proofs.Common.{ℕ, ◌≡◌, ◌<◌, slice_get, Some}
use Rattle.aig_graph.specs.declared.properties.Symbol.{Symbol}
use Rattle.witness_circuits.specs.Naming.{IsSaying}
use Rattle.witness_circuits.proofs.naming.any_says.Given as goal

abbrev pub invariant-loop-name : goal.invariant-loop-name
invariant-loop-name l = (j : ℕ) (name : Symbol) → j < l.name-index → slice_get l.names j ≡ Some name → IsSaying name.name → ⊥
