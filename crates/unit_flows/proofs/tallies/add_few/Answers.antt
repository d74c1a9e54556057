use Rattle.std.proofs.Common.{arith, refl}
use Rattle.unit_flows.proofs.TallyLaws.{weigh-add}
use Rattle.unit_flows.proofs.tallies.add_few.Goals as goal

pub returns-clause-sum : goal.returns-clause-sum
returns-clause-sum c = λ t weight. weigh-add c.args.first c.args.var c.args.units c.args.table.now _ weight (omega (arith, c.if-var-first.false)) (omega (arith, c.if-var-first-2.false, c.if-var-first.false)) refl
