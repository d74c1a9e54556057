use Rattle.json_reports.proofs.PlainLaws.{prints_as, refusal}
use Rattle.json_reports.proofs.commands.print_refusal.Goals as goal

pub returns : goal.returns
returns g c =
    prints_as (g.W.CountedWrite.output c.args.writer.now) (g.W.CountedWrite.output c.print_made.new.writer) c.refusal_object.result c.print_made.result c.refusal_object.ensures (refusal c.args.refusal.now) c.print_made.ensures
