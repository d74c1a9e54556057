use Rattle.binary_file.specs.Reading.{before_item}
use Rattle.binary_file.proofs.DeltaReadingLaws.{second_done, second_failed}
use Rattle.binary_file.proofs.items.Items.end_second.Goals as goal

pub returns-in-Err : goal.returns-in-Err
returns-in-Err c h raw delta is here falls value place = second_failed h raw c.args.self.now.at c.args.after c.args.number delta value place c.args.rhs0 c.in-Err.fault (c.in-Err.ensures h raw is here falls)

pub returns : goal.returns
returns c h raw delta is here falls value place =
    let took = c.in-Ok.ensures h raw is here falls in (
      before_item h took.0 c.args.after,
      second_done h raw c.args.self.now.at c.args.after c.args.number delta value place c.args.rhs0 took.0 took.1,
      c.begin.ensures h took.0 took.2,
    )
