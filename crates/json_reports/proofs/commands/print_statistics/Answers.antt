use Rattle.json_reports.proofs.PlainLaws.{prints_as, statistics}
use Rattle.json_reports.proofs.commands.print_statistics.Goals as goal

pub returns : goal.returns
returns g c =
    prints_as (g.W.CountedWrite.output c.args.writer.now) (g.W.CountedWrite.output c.print_made.new.writer) c.statistics_object.result c.print_made.result c.statistics_object.ensures (statistics c.args.statistics.now c.args.merged) c.print_made.ensures
