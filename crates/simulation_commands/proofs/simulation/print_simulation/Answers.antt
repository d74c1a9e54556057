use Rattle.simulation_commands.proofs.WaveLaws.{prints_trace}
use Rattle.command_endings.proofs.PrintingLaws.{failing}
use Rattle.simulation_commands.proofs.simulation.print_simulation.Goals as goal

pub returns-in-Ok-clause-trace : goal.returns-in-Ok-clause-trace
returns-in-Ok-clause-trace g c =
    prints_trace _ c.args.task.now c.in-Ok.given (g.I.CountedRead.input c.args.stdin.now) (g.I.CountedRead.input c.case_for.new.stdin)
    (g.O.CountedWrite.output c.args.out.now) (g.O.CountedWrite.output c.print_case-ended.new.out) c.print_case-ended.result c.in-Ok.ensures c.print_case-ended.ensures.dumped c.print_case-ended.ensures.printed

pub returns-in-Ok-clause-prints : goal.returns-in-Ok-clause-prints
returns-in-Ok-clause-prints g c = c.print_case-ended.ensures.prints

pub returns-in-Err-clause-prints : goal.returns-in-Err-clause-prints
returns-in-Err-clause-prints g c = failing c.in-Err.failure _
