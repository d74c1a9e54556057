use Rattle.std.proofs.Common.{◌≡◌, map, take}
use Rattle.aig_graph.specs.Graph.{first_latch}
use Rattle.cleaned_circuits.specs.Reached.{stays}
use Rattle.cleaned_circuits.specs.Trimmed.{picked, renumbered_latch}
use Rattle.clean.specs.Sweep.{is_marked}
use Rattle.clean.proofs.trim.Trim.latches.Given as goal

abbrev pub invariant-loop-place : goal.invariant-loop-place
invariant-loop-place l =
    l.latches.items ≡ map (renumbered_latch l.self.aig.now (is_marked l.self.reached.now))
    (picked (stays l.self.aig.now (is_marked l.self.reached.now)) (first_latch l.self.aig.now) (take l.place l.self.aig.now.latches))
