use Rattle.command_endings.proofs.PrintingLaws.{failing, of_device}
use Rattle.simulation_commands.specs.Dumping.{dump_of}
use Rattle.simulation_commands.specs.Simulating.{case_text}
use Rattle.simulation_commands.proofs.WaveLaws.{dumped_to, lines_after_dump, lines_print_after}
use Rattle.simulation_commands.proofs.simulation.print_with_waves.Goals as goal

pub returns-in-Ok-write_dump-clause-dumped : goal.returns-in-Ok-write_dump-clause-dumped
returns-in-Ok-write_dump-clause-dumped g c =
    let out = g.O.CountedWrite.output in
    dumped_to _ c.args.target (dump_of c.args.given.now) (out c.args.out.now) (out c.write_dump.new.out) c.print_lines.result c.in-Ok-write_dump.ensures.given

pub returns-in-Ok-write_dump-clause-printed : goal.returns-in-Ok-write_dump-clause-printed
returns-in-Ok-write_dump-clause-printed g c =
    let out = g.O.CountedWrite.output in
    lines_after_dump c.args.target (dump_of c.args.given.now) (case_text c.args.given.now) (out c.args.out.now) (out c.write_dump.new.out) (out c.print_lines.new.out)
    c.print_lines.result (λ is. (c.in-Ok-write_dump.ensures.stdout is).ok) c.in-Ok-write_dump.ensures.file c.print_lines.ensures

pub returns-in-Ok-write_dump-clause-prints : goal.returns-in-Ok-write_dump-clause-prints
returns-in-Ok-write_dump-clause-prints g c =
    let out = g.O.CountedWrite.output in
    lines_print_after (case_text c.args.given.now) (out c.args.out.now) (out c.write_dump.new.out) (out c.print_lines.new.out) c.print_lines.result c.print_lines.ensures

pub returns-in-Err-write_dump-clause-prints : goal.returns-in-Err-write_dump-clause-prints
returns-in-Err-write_dump-clause-prints g c =
    let out = g.O.CountedWrite.output in
    of_device c.in-Err-write_dump.failure (out c.args.out.now) (out c.write_dump.new.out) c.in-Err-write_dump.ensures.err.0

pub returns-in-Err-clause-prints : goal.returns-in-Err-clause-prints
returns-in-Err-clause-prints g c = failing c.in-Err.failure (g.O.CountedWrite.output c.args.out.now)
