use Rattle.std.proofs.Common.{◌≡◌, map, take}
use Rattle.aig_graph.proofs.mapping.mapped_literals.Given as goal

abbrev pub invariant-loop-lit : goal.invariant-loop-lit
invariant-loop-lit g l = l.mapped.items ≡ map (g.S.Substitute.literal_of l.stands) (take l.lit-index l.lits)
