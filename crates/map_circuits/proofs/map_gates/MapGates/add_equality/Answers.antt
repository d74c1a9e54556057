use Rattle.std.proofs.Common.{arith}
use Rattle.map_circuits.proofs.GrowingLaws.{equals-one, equals-zero}
use Rattle.map_circuits.proofs.map_gates.MapGates.add_equality.Goals as goal

pub returns-then-eq-clause-is : goal.returns-then-eq-clause-is
returns-then-eq-clause-is c = equals-one c.args.self.now c.requires.graph c.args.a c.args.b c.requires.a (grind (arith, c.eq.ensures, c.if-eq.true, c.if-eq.ensures))

pub returns-then-eq-2-clause-is : goal.returns-then-eq-2-clause-is
returns-then-eq-2-clause-is c =
    equals-zero c.args.self.now c.requires.graph c.args.a c.not.result c.args.b c.requires.a c.not.ensures.same_variable c.not.ensures.other_sign (grind (arith, c.eq-else-eq.ensures, c.if-eq-2.true, c.if-eq-2.ensures))
