use Rattle.binary_file.proofs.FeedLaws.{fed_to_end}
use Rattle.binary_file.proofs.items.Items.feed.Goals as goal

pub returns : goal.returns
returns c state offset is place = fed_to_end _ c.args.end state c.args.piece.now c.loop-left.left.now _ c.is_empty.ensures c.loop-left-test.false (c.loop-left.invariant state offset is place)
