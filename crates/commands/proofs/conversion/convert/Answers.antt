use Rattle.std.proofs.Common.{refl}
use Rattle.command_endings.proofs.PrintingLaws.{failing_after, of_device}
use Rattle.commands.proofs.conversion.convert.Goals as goal

pub returns-in-Ok-written-clause-converts : goal.returns-in-Ok-written-clause-converts
returns-in-Ok-written-clause-converts g c = record {
  spelt = c.in-Ok.spelt;
  read = c.in-Ok.ensures.stdin;
  writes = rw c.spelling_for-spelling.ensures at c.in-Ok-written.ensures.given;
}

pub returns-in-Err-written-clause-prints : goal.returns-in-Err-written-clause-prints
returns-in-Err-written-clause-prints g c = of_device c.in-Err-written.failure _ _ c.in-Err-written.ensures.err.0

pub returns-in-Err-clause-prints : goal.returns-in-Err-clause-prints
returns-in-Err-clause-prints g c = failing_after c.in-Err.failure _ _ refl
