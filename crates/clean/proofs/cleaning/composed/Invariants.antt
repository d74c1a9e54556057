use Rattle.std.proofs.Common.{◌≡◌, take}
use Rattle.aig_graph.specs.Laws.{composed}
use Rattle.clean.proofs.cleaning.composed.Given as goal

abbrev pub invariant-loop-place : goal.invariant-loop-place
invariant-loop-place l = l.places.items ≡ composed l.first (take l.place-index l.second)
