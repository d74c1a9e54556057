use Rattle.map_circuits.specs.Growing.{Extends}
use Rattle.map_miters.specs.Comparing.{AreEqualities}
use Rattle.map_miters.proofs.comparing.add_equalities.Given as goal

abbrev pub invariant-loop-place : goal.invariant-loop-place
invariant-loop-place l = record {
  extends : Extends l.fn.gates l.gates;
  pairs : AreEqualities l.fn.gates l.gates l.a l.b l.place l.equal.items;
}
