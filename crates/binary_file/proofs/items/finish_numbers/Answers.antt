use Rattle.std.proofs.lemmas.Bool.{and_left}
use Rattle.binary_file.specs.Items.{next_section}
use Rattle.ascii_file.specs.Items.{begins_comment}
use Rattle.ascii_file.specs.Reading.{is_symbols}
use Rattle.binary_file.proofs.FinishLaws.{item_done, item_failed, gives_same}
use Rattle.binary_file.proofs.items.finish_numbers.Goals as goal

pub returns-in-Ok : goal.returns-in-Ok
returns-in-Ok c state is =
    let took = c.in-Ok.ensures is.h is.raw is.bytes is.contents is.section is.line_is in
    gives_same _ _ _
    (item_done c.args.end is.h is.raw c.args.at is.bytes state is.is is.place c.if-at-end.false took.0 (and_left (is_symbols (next_section is.h is.raw)) (begins_comment is.bytes) is.section) took.1)
    (c.finish-in-Ok.ensures is.h took.0 took.2)

pub returns-in-Err : goal.returns-in-Err
returns-in-Err c state is =
    item_failed c.args.end is.h is.raw c.args.at is.bytes state is.is is.place c.if-at-end.false c.in-Err.fault (and_left (is_symbols (next_section is.h is.raw)) (begins_comment is.bytes) is.section)
    (c.in-Err.ensures is.h is.raw is.bytes is.contents is.section is.line_is)
