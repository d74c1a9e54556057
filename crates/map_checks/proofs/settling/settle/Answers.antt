use Rattle.map_checks.proofs.settling.settle.Goals as goal

pub returns : goal.returns
returns c = c.add_to.ensures c.args.first.now c.args.second.now c.args.map.now c.loop.invariant c.requires.shown
