use Rattle.std.proofs.Common.{arith}
use Rattle.map_circuits.proofs.GrowingLaws.{extends-itself}
use Rattle.map_circuits.proofs.ConjunctionLaws.{conjunction-one}
use Rattle.map_circuits.proofs.conjunctions.add_both.Goals as goal

pub returns-then-eq-clause-extends : goal.returns-then-eq-clause-extends
returns-then-eq-clause-extends c = extends-itself c.args.gates.now c.requires.graph

pub returns-then-eq-clause-is : goal.returns-then-eq-clause-is
returns-then-eq-clause-is c =
    conjunction-one c.args.gates.now c.requires.graph c.args.a c.args.b c.requires.b (grind (arith, c.eq.ensures, c.if-eq.true, c.if-eq.ensures))
