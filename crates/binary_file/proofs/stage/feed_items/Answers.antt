use Rattle.std.proofs.Common.{length}
use Rattle.binary_file.proofs.HoldLaws.{items_held, items_failed}
use Rattle.binary_file.proofs.stage.feed_items.Goals as goal

pub returns-in-Ok : goal.returns-in-Ok
returns-in-Ok c bytes state reading stands place = items_held _ bytes c.args.piece.now c.args.end state reading place (c.in-Ok.ensures state (length bytes) stands place)

pub returns-in-Err : goal.returns-in-Err
returns-in-Err c bytes state reading stands place = items_failed c.in-Err.fault bytes c.args.piece.now state reading (c.in-Err.ensures state (length bytes) stands place)
