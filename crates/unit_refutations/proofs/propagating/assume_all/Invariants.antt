use Rattle.std.proofs.Common.{ℕ, Bool}
use Rattle.aig_graph.specs.Gates.{AreOne, IsNegated}
use Rattle.unit_refutations.specs.Assigned.{Holds}
use Rattle.unit_refutations.proofs.propagating.assume_all.Given as goal

abbrev pub invariant-loop-lit : goal.invariant-loop-lit
invariant-loop-lit l = (values : ℕ → Bool) → IsNegated values → AreOne values l.lits → Holds l.fn.assigned values → Holds l.assigned values
