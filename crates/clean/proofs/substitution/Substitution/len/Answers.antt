use Rattle.std.proofs.Common.{arith}
use Rattle.clean.proofs.SubstitutionLaws.{long-is}
use Rattle.clean.proofs.substitution.Substitution.len.Goals as goal

pub returns-clause-long : goal.returns-clause-long
returns-clause-long c = omega (arith, long-is c.self.inside.first c.self.inside.literals.items c.args.self.now c.self.view_is, c.len.ensures)
