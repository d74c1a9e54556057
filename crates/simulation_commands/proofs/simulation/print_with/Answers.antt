use Rattle.command_endings.proofs.PrintingLaws.{failing}
use Rattle.simulation_commands.proofs.simulation.print_with.Goals as goal

pub returns-in-Ok-clause-dumped : goal.returns-in-Ok-clause-dumped
returns-in-Ok-clause-dumped g c = c.print_with_waves-ended.ensures.dumped

pub returns-in-Ok-clause-printed : goal.returns-in-Ok-clause-printed
returns-in-Ok-clause-printed g c = c.print_with_waves-ended.ensures.printed

pub returns-in-Ok-clause-prints : goal.returns-in-Ok-clause-prints
returns-in-Ok-clause-prints g c = c.print_with_waves-ended.ensures.prints

pub returns-in-Err-clause-prints : goal.returns-in-Err-clause-prints
returns-in-Err-clause-prints g c = failing c.in-Err.failure (g.O.CountedWrite.output c.args.out.now)
