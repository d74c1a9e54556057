use Rattle.map_circuits.proofs.ConstrainingLaws.{adds-equality}
use Rattle.map_circuits.proofs.constraining.add_constraint.Goals as goal

pub returns : goal.returns
returns c =
    adds-equality c.args.gates.now c.add_equality.new.self c.args.constraints.now.items c.push.new.self.items c.args.a c.args.b c.in_ok-equality.equality
    c.requires.a c.requires.b c.in_ok-equality.ensures.extends c.in_ok-equality.ensures.is c.in_ok-push.ensures.items
