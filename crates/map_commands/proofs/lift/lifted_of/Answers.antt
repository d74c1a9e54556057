use Rattle.std.proofs.Common.{◌∙◌, ap, Err}
use Rattle.map_commands.proofs.LiftLaws.{lifted-of}
use Rattle.map_commands.specs.declared.given.Given.{Given}
use Rattle.map_commands.proofs.lift.lifted_of.Goals as goal

pub returns-in-Ok-clause-lifted : goal.returns-in-Ok-clause-lifted
returns-in-Ok-clause-lifted c =
    let given : Given = c.args.given.now in
    lifted-of given.mapped.pair.first.circuit given.mapped.pair.second.circuit given.mapped.map.circuit given.witness.circuit c.in-Ok.sharing c.lifted_by-lifted.result c.in-Ok.ensures.shared c.lifted_by-lifted.ensures.lifted

pub returns-in-Err-NoSuchLiteral-clause-failed : goal.returns-in-Err-NoSuchLiteral-clause-failed
returns-in-Err-NoSuchLiteral-clause-failed c = (c.name.ensures, c.sharing_of.ensures.refused (c.in-Err-NoSuchLiteral.is ∙ ap (λ e. Err e) c.in-Err-NoSuchLiteral.field-0-is))
