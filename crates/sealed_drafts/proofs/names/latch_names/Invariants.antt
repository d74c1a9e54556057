use Rattle.aig_graph.specs.Circuits.{AreNamesBelow}
use Rattle.sealed_drafts.proofs.names.latch_names.Given as goal

abbrev pub invariant-loop-place : goal.invariant-loop-place
invariant-loop-place l = AreNamesBelow l.place l.own.items
