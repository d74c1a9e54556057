use Rattle.std.proofs.lemmas.Bool.{and_right}
use Rattle.ascii_file.specs.Items.{begins_comment}
use Rattle.ascii_file.specs.Reading.{is_symbols}
use Rattle.binary_file.specs.Items.{next_section}
use Rattle.binary_file.proofs.FinishLaws.{symbol_ended, item_failed, gives_same}
use Rattle.binary_file.proofs.items.finish_symbol.Goals as goal

pub returns-in-Ok : goal.returns-in-Ok
returns-in-Ok c state is =
    let ended = symbol_ended c.args.end is.h is.raw c.args.at is.bytes state is.is is.place c.if-at-end.false is.section c.take_text.new.sections c.in-Ok.field-0 (c.in-Ok.ensures is.h is.raw is.bytes is.contents is.section is.line_is) in
    gives_same _ _ _ ended.1 (c.finish-in-Ok.ensures is.h ended.0 ended.2)

pub returns-in-Err : goal.returns-in-Err
returns-in-Err c state is =
    let took = c.in-Err.ensures is.h is.raw is.bytes is.contents is.section is.line_is in
    item_failed c.args.end is.h is.raw c.args.at is.bytes state is.is is.place c.if-at-end.false c.in-Err.fault (and_right (is_symbols (next_section is.h is.raw)) (begins_comment is.bytes) took.0) took.1
