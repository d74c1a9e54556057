use Rattle.std.proofs.Common.{◌≡◌, ◌+◌}
use Rattle.aig_graph.specs.Graph.{first_latch}
use Rattle.aig_graph.specs.Tables.{table}
use Rattle.cleaned_circuits.specs.Latches.{leaf_substitute}
use Rattle.clean.specs.Firsts.{AreFirsts}
use Rattle.clean.proofs.latches.latch_substitutes.Given as goal

abbrev pub invariant-loop-place : goal.invariant-loop-place
invariant-loop-place l = record {
  substitutes : l.substitutes ≡ table 0 (first_latch l.aig + l.place) (leaf_substitute l.aig l.held.positions.now);
  firsts : AreFirsts l.aig l.held.positions.now l.place l.firsts;
}
