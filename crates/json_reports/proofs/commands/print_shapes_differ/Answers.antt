use Rattle.json_reports.proofs.PlainLaws.{prints_as, shapes}
use Rattle.json_reports.proofs.commands.print_shapes_differ.Goals as goal

pub returns : goal.returns
returns g c =
    prints_as (g.W.CountedWrite.output c.args.writer.now) (g.W.CountedWrite.output c.print_made.new.writer) c.shapes_object.result c.print_made.result c.shapes_object.ensures shapes c.print_made.ensures
