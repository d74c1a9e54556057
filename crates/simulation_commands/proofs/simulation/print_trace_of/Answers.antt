use Rattle.command_endings.proofs.PrintingLaws.{ends_with_line, failing}
use Rattle.circuit_files.specs.declared.outcome.Outcome.TheVariants.{Done}
use Rattle.simulation_commands.specs.Simulating.{case_text}
use Rattle.simulation_commands.proofs.WaveLaws.{lines_print_after}
use Rattle.simulation_commands.proofs.simulation.print_trace_of.Goals as goal

pub returns-in-Ok-clause-printed : goal.returns-in-Ok-clause-printed
returns-in-Ok-clause-printed g c =
    let out = g.O.CountedWrite.output in
    ends_with_line Done (case_text c.args.given.now) (out c.args.out.now) (out c.print_lines.new.out) c.print_lines.result c.print_lines.ensures

pub returns-in-Ok-clause-prints : goal.returns-in-Ok-clause-prints
returns-in-Ok-clause-prints g c =
    let out = g.O.CountedWrite.output in
    lines_print_after (case_text c.args.given.now) (out c.args.out.now) (out c.args.out.now) (out c.print_lines.new.out) c.print_lines.result c.print_lines.ensures

pub returns-in-Err-clause-prints : goal.returns-in-Err-clause-prints
returns-in-Err-clause-prints g c = failing c.in-Err.failure (g.O.CountedWrite.output c.args.out.now)
