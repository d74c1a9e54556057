use Rattle.std.proofs.Common.{ℕ, Bool}
use Rattle.aig_graph.specs.Gates.{AreOne, Respects, gates_of}
use Rattle.unit_refutations.proofs.probing.probe.Given as goal

abbrev pub invariant-loop : goal.invariant-loop
invariant-loop l = (values : ℕ → Bool) → Respects (gates_of l.aig) values → AreOne values l.fn.known.items → AreOne values l.known.items
