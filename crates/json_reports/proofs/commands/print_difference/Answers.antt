use Rattle.json_reports.proofs.PlainLaws.{difference, prints_as}
use Rattle.json_reports.proofs.commands.print_difference.Goals as goal

pub returns : goal.returns
returns g c =
    prints_as (g.W.CountedWrite.output c.args.writer.now) (g.W.CountedWrite.output c.print_made.new.writer) c.difference_object.result c.print_made.result c.difference_object.ensures (difference c.args.found) c.print_made.ensures
