use Rattle.map_checks.proofs.FactLaws.{is-plain}
use Rattle.map_checks.proofs.facts.fact.Goals as goal

pub returns-in-None : goal.returns-in-None
returns-in-None c = is-plain c.args.aig.now c.args.lit c.requires
