use Rattle.witness_circuits.proofs.NamingLaws.{AreTaken}
use Rattle.witness_circuits.proofs.naming.named_places.Given as goal

abbrev pub invariant-loop-name : goal.invariant-loop-name
invariant-loop-name l = AreTaken l.first l.count l.names l.many l.name-index l.named.places.items l.named.taken.items
