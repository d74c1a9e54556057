use Rattle.command_endings.proofs.PrintingLaws.{of_device}
use Rattle.moving_commands.proofs.moving.write_moved.Goals as goal

pub returns-in-Err-clause-prints : goal.returns-in-Err-clause-prints
returns-in-Err-clause-prints g c = of_device c.in-Err.failure _ _ c.in-Err.ensures.err
