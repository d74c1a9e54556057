use Rattle.map_checks.proofs.PartLaws.{are-pairs}
use Rattle.map_checks.proofs.pairs.pairs_of.Goals as goal

pub returns-clause-pairs : goal.returns-clause-pairs
returns-clause-pairs c =
    are-pairs c.args.first.now c.args.second.now c.args.map.now c.in_ok-sides.sides.before c.in_ok-sides.sides.later c.in_ok-sides.sides.after c.sides_of.new.shared c.args.equal.now c.sides_of.new.equal c.requires.fitting
    c.known.ensures.netlist c.known-2.ensures.netlist c.known-2.ensures.graph c.known-3.ensures.netlist c.in_ok-sides.ensures.sides c.in_ok-pairs.pairs.lits.items c.in_ok-pairs.pairs.others.items
    c.in_ok-pairs.ensures.lits c.in_ok-pairs.ensures.others
