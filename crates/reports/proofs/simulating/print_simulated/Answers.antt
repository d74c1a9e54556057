use Rattle.std.proofs.Common.{◌∙◌, ap, rules}
use Rattle.counted_io.proofs.BufferedLaws.{writes-whole}
use Rattle.reports.specs.Simulating.{lines_of}
use Rattle.reports.proofs.SimulatingLaws.{lines_are}
use Rattle.reports.proofs.simulating.print_simulated.Goals as goal

pub returns : goal.returns
returns g c =
    writes-whole c.new-out.ensures (rw (ap (lines_of c.args.circuit.now) c.as_slice.ensures ∙ lines_are c.args.circuit.now c.args.stimulus.now) at c.put_sequences.ensures) c.flush.ensures (search rules)
