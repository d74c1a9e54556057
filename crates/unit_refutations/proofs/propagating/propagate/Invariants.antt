use Rattle.std.proofs.Common.{ℕ, Bool}
use Rattle.aig_graph.specs.Gates.{Respects, gates_of}
use Rattle.unit_refutations.specs.Assigned.{Holds}
use Rattle.unit_refutations.proofs.propagating.propagate.Given as goal

abbrev pub invariant-loop-step : goal.invariant-loop-step
invariant-loop-step l = (values : ℕ → Bool) → Respects (gates_of l.fn.aig) values → Holds l.fn.assigned values → Holds l.assigned values
