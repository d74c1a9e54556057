use Rattle.std.proofs.Common.{◌≡◌, map}
use Rattle.aig_graph.specs.Graph.{free_before}
use Rattle.aig_graph.specs.Counting.{places}
use Rattle.cleaned_circuits.specs.Trimmed.{is_kept_free}
use Rattle.clean.specs.Sweep.{is_marked}
use Rattle.clean.proofs.trim.Trim.kept_free.Given as goal

abbrev pub invariant-loop-place : goal.invariant-loop-place
invariant-loop-place l = record {
  kept : l.kept.items ≡ map (free_before l.self.aig.now) (places (is_kept_free l.self.aig.now (is_marked l.self.reached.now)) l.place);
  free : l.free ≡ free_before l.self.aig.now l.place;
}
