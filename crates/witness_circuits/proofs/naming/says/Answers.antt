use Rattle.std.proofs.Common.{sym, ◌∙◌}
use Rattle.witness_circuits.proofs.naming.says.Goals as goal

pub returns-in-Some : goal.returns-in-Some
returns-in-Some c = (c.in-Some.field-0.now, sym c.as_slice.ensures ∙ c.in-Some.ensures)

pub returns-in-None : goal.returns-in-None
returns-in-None c = λ saying. c.in-None.ensures saying.0 (c.as_slice.ensures ∙ saying.1)
