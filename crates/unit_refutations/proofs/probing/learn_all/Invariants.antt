use Rattle.std.proofs.Common.{ℕ, Bool}
use Rattle.aig_graph.specs.Gates.{AreOne, Respects, gates_of}
use Rattle.unit_refutations.proofs.probing.learn_all.Given as goal

abbrev pub invariant-loop-lit : goal.invariant-loop-lit
invariant-loop-lit l = (values : ℕ → Bool) → Respects (gates_of l.aig) values → AreOne values l.fn.known.items → AreOne values l.known.items
