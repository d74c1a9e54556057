use Rattle.std.proofs.Common.{Bool, Ok, refl, subst}
use Rattle.binary_file.specs.Opened.{TakesText}
use Rattle.binary_file.specs.Reading.{before_item, InComment}
use Rattle.binary_file.proofs.EndLaws.{symbol_done, symbol_failed, comment_done}
use Rattle.binary_file.proofs.items.Items.end_symbol.Goals as goal

pub returns-in-Err : goal.returns-in-Err
returns-in-Err c state offset is place =
    let took = c.in-Err.ensures is.h is.raw is.bytes is.contents is.section is.line_is in
    symbol_failed _ _ offset c.args.line state is c.in-Err.fault took.0 took.1

pub returns-in-Ok-true : goal.returns-in-Ok-true
returns-in-Ok-true c state offset is place =
    let took = subst (λ (b : Bool). TakesText is.h c.take_text.new.sections is.raw c.args.self.now.at is.bytes (Ok b)) c.in-Ok-true.field-0-test (c.in-Ok-true.ensures is.h is.raw is.bytes is.contents is.section is.line_is) in (
      before_item is.h took.1.0 c.args.after,
      symbol_done _ _ offset c.args.line state is c.args.after took.1.0 place took.0 took.1.1,
      c.begin.ensures is.h took.1.0 took.1.2,
    )

pub returns-in-Ok-false : goal.returns-in-Ok-false
returns-in-Ok-false c state offset is place =
    let took = subst (λ (b : Bool). TakesText is.h c.take_text.new.sections is.raw c.args.self.now.at is.bytes (Ok b)) c.in-Ok-false.field-0-test (c.in-Ok-false.ensures is.h is.raw is.bytes is.contents is.section is.line_is) in (
      InComment is.h is.raw,
      comment_done _ _ offset c.args.line state is took.0,
      record { h = is.h; raw = is.raw; is = refl; contents = took.1; section = is.section },
    )
