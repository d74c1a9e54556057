use Rattle.json_reports.proofs.PlainLaws.{batch, prints_as}
use Rattle.json_reports.proofs.commands.print_batch.Goals as goal

pub returns : goal.returns
returns g c =
    prints_as (g.W.CountedWrite.output c.args.writer.now) (g.W.CountedWrite.output c.print_made.new.writer) c.batch_object.result c.print_made.result c.batch_object.ensures (batch c.args.reports.now c.args.status) c.print_made.ensures
