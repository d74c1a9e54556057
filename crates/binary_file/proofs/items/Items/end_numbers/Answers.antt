use Rattle.binary_file.specs.Reading.{before_item}
use Rattle.binary_file.proofs.EndLaws.{numbers_done, numbers_failed}
use Rattle.binary_file.proofs.items.Items.end_numbers.Goals as goal

pub returns-in-Err : goal.returns-in-Err
returns-in-Err c state offset is place = numbers_failed _ _ offset c.args.line state is c.in-Err.fault (c.in-Err.ensures is.h is.raw is.bytes is.contents is.section is.line_is)

pub returns : goal.returns
returns c state offset is place =
    let took = c.in-Ok.ensures is.h is.raw is.bytes is.contents is.section is.line_is in (
      before_item is.h took.0 c.args.after,
      numbers_done _ _ offset c.args.line state is c.args.after took.0 place took.1,
      c.begin.ensures is.h took.0 took.2,
    )
