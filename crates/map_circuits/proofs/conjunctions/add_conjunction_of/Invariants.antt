use Rattle.map_circuits.specs.Growing.{Extends}
use Rattle.map_circuits.proofs.ConjunctionLaws.{AreFirst}
use Rattle.map_circuits.proofs.conjunctions.add_conjunction_of.Given as goal

abbrev pub invariant-loop-lit : goal.invariant-loop-lit
invariant-loop-lit l = record {
  extends : Extends l.fn.gates l.gates;
  first : AreFirst l.gates l.lits l.lit-index l.all;
}
