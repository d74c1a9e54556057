use Rattle.aig_graph.proofs.StreamLaws.{same_streams-reflexive, same_streams-transitive}
use Rattle.aig_graph.proofs.laws.stream_laws.Goals as goal

pub returns-clause-reflexive : goal.returns-clause-reflexive
returns-clause-reflexive c = same_streams-reflexive

pub returns-clause-transitive : goal.returns-clause-transitive
returns-clause-transitive c = same_streams-transitive
