use Rattle.aig_graph.proofs.PropsLaws.{mapped-is}
use Rattle.aig_graph.proofs.properties.Props.mapped.Goals as goal

pub returns : goal.returns
returns g c = mapped-is (g.S.Substitute.literal_of c.args.stands.now) c.args.self.now _ _ _ _ _ c.in_ok-outputs.ensures c.in_ok-bad.ensures c.in_ok-constraints.ensures c.in_ok-justice.ensures c.in_ok-fairness.ensures
