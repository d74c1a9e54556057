use Rattle.map_commands.proofs.BackLiftLaws.{lifted-back-by, turnable}
use Rattle.map_commands.specs.declared.given.Given.{Given}
use Rattle.map_commands.proofs.back_lift.lifted_back_by.Goals as goal

pub witness_lifted_back-requires-clause-turnable : goal.witness_lifted_back-requires-clause-turnable
witness_lifted_back-requires-clause-turnable c =
    let given : Given = c.args.given.now in
    turnable given.mapped.pair.first.circuit given.mapped.pair.second.circuit given.mapped.map.circuit c.requires.map c.requires.fitting

pub returns-in-Ok-clause-lifted : goal.returns-in-Ok-clause-lifted
returns-in-Ok-clause-lifted c =
    let given : Given = c.args.given.now in
    lifted-back-by given.mapped.pair.first.circuit given.mapped.pair.second.circuit given.mapped.map.circuit given.witness.circuit c.args.sharing.now c.in-Ok.lifted
    (λ kept. c.back_lift_law.ensures given.mapped.pair.first.circuit given.mapped.pair.second.circuit kept given.mapped.map.circuit given.witness.circuit c.args.sharing.now c.in-Ok.lifted)
    c.known.ensures.graph c.known.ensures.netlist c.known-2.ensures.graph c.requires.known c.requires.shares c.in-Ok.ensures.lifted
