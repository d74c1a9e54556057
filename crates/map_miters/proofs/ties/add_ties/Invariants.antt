use Rattle.map_circuits.specs.Growing.{Extends}
use Rattle.map_miters.specs.Ties.{AreTies}
use Rattle.map_miters.proofs.ties.add_ties.Given as goal

abbrev pub invariant-loop-place : goal.invariant-loop-place
invariant-loop-place l = record {
  extends : Extends l.fn.gates l.gates;
  ties : AreTies l.gates l.first l.second l.map l.place l.ties.items;
}
