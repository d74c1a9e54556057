use Rattle.std.proofs.Common.{◌∙◌}
use Rattle.rebuild.proofs.plan.Plan.literal.Goals as goal

pub renamed-requires-clause-table : goal.renamed-requires-clause-table
renamed-requires-clause-table c = c.as_slice.ensures.value ∙ c.args.self.now.variables_are

pub renamed-requires-clause-room : goal.renamed-requires-clause-room
renamed-requires-clause-room c = c.args.self.now.room
