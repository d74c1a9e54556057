use Rattle.std.proofs.Common.{ℕ, ◌<◌, ◌≡◌, get_or}
use Rattle.aig_graph.specs.declared.properties.Symbol.{Symbol}
use Rattle.class_circuits.proofs.names.are_same_names.Given as goal

abbrev pub invariant-loop-place : goal.invariant-loop-place
invariant-loop-place l = (j : ℕ) (d : Symbol) → j < l.place → get_or l.second j d ≡ get_or l.first j d
