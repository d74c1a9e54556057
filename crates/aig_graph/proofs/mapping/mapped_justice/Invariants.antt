use Rattle.std.proofs.Common.{◌≡◌, map, take}
use Rattle.aig_graph.proofs.mapping.mapped_justice.Given as goal

abbrev pub invariant-loop-lits : goal.invariant-loop-lits
invariant-loop-lits g l = l.properties.items ≡ map (map (g.S.Substitute.literal_of l.stands)) (take l.lits-index l.justice)
