use Rattle.std.proofs.Common.{◌++◌}
use Rattle.binary_file.specs.Reading.{InLine, step}
use Rattle.binary_file.proofs.FeedLaws.{after_end, fault_at_end, all_taken, none_left, symbol_extended, symbol_line, open_line_fed}
use Rattle.binary_file.proofs.items.Items.feed_symbol.Goals as goal

pub returns-in-Ok-clause-fed : goal.returns-in-Ok-clause-fed
returns-in-Ok-clause-fed c state offset is place =
    let l = symbol_line _ _ offset c.args.end c.offset_of.result c.in-Some.part.now c.in-Some.left.now c.args.piece.now c.in-Some.ensures place c.offset_of.ensures c.args.line c.extend.new.self state is c.in_ok-extend-in-Some.ensures in
    after_end _ c.args.end c.offset_of.result state c.args.piece.now c.in-Some.left.now (step l.inside 10) l.fed l.place (c.in-Ok.ensures l.inside l.offset l.is_in l.next)

pub returns-in-Err-clause-fed : goal.returns-in-Err-clause-fed
returns-in-Err-clause-fed c state offset is place =
    let l = symbol_line _ _ offset c.args.end c.offset_of.result c.in-Some.part.now c.in-Some.left.now c.args.piece.now c.in-Some.ensures place c.offset_of.ensures c.args.line c.extend.new.self state is c.in_ok-extend-in-Some.ensures in
    fault_at_end c.in-Err.fault state c.args.piece.now c.in-Some.left.now (step l.inside 10) l.fed (c.in-Err.ensures l.inside l.offset l.is_in l.next)

pub returns-in_ok-extend-in-None-clause-fed : goal.returns-in_ok-extend-in-None-clause-fed
returns-in_ok-extend-in-None-clause-fed c state offset is place =
    all_taken _ c.args.end offset state (InLine is.h is.raw c.args.self.now.at (is.bytes ++ c.args.piece.now)) c.args.piece.now _ (none_left c.args.piece.now) place
    (symbol_extended _ _ offset c.args.line c.extend-in-None.new.self state is c.args.piece.now c.in_ok-extend-in-None.ensures) (open_line_fed is.h is.raw c.args.self.now.at is.bytes c.args.piece.now state is.is c.in-None.ensures)
