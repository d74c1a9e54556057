use Rattle.clean.specs.Gathered.{AreNew}
use Rattle.clean.proofs.low.are_new.Given as goal

abbrev pub invariant-loop-gate : goal.invariant-loop-gate
invariant-loop-gate l = AreNew l.gates l.pairs l.gate-index
