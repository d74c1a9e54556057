use Rattle.map_commands.proofs.LiftLaws.{liftable, lifted-by}
use Rattle.map_commands.specs.declared.given.Given.{Given}
use Rattle.map_commands.proofs.lift.lifted_by.Goals as goal

pub lifted_witness-requires : goal.lifted_witness-requires
lifted_witness-requires c =
    let given : Given = c.args.given.now in
    liftable given.mapped.pair.first.circuit given.mapped.pair.second.circuit given.mapped.map.circuit given.witness.circuit c.args.sharing.now c.requires.map c.requires.fitting c.requires.shares

pub returns-in-Ok-clause-lifted : goal.returns-in-Ok-clause-lifted
returns-in-Ok-clause-lifted c =
    let given : Given = c.args.given.now in
    lifted-by given.mapped.pair.first.circuit given.mapped.pair.second.circuit given.mapped.map.circuit given.witness.circuit c.args.sharing.now c.in-Ok.lifted
    (λ kept. c.lift_law.ensures given.mapped.pair.first.circuit given.mapped.pair.second.circuit kept given.mapped.map.circuit given.witness.circuit c.args.sharing.now c.in-Ok.lifted)
    c.known.ensures.graph c.known.ensures.netlist c.known-in-Ok.ensures.graph c.requires.shares c.in-Ok.ensures
