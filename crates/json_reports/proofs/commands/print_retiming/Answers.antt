use Rattle.std.specs.Prelude.{option_map}
use Rattle.json_reports.proofs.PlainLaws.{prints_as, retiming}
use Rattle.json_reports.proofs.commands.print_retiming.Goals as goal

pub returns : goal.returns
returns g c =
    prints_as (g.W.CountedWrite.output c.args.writer.now) (g.W.CountedWrite.output c.print_made.new.writer) c.retiming_object.result c.print_made.result c.retiming_object.ensures (retiming c.args.rounds.now c.args.levels c.args.remaining.now (option_map (λ t. t.now) c.args.times) c.args.map) c.print_made.ensures
