use Rattle.counted_io.proofs.BufferedLaws.{puts-numbered_next}
use Rattle.pictures.proofs.TextLaws.{puts-numbered_end}
use Rattle.pictures.specs.Pictures.{latch_lines}
use Rattle.pictures.specs.Views.{drawn_in, look_in}
use Rattle.pictures.proofs.graph.put_latches.Goals as goal

pub loop-k-preserved : goal.loop-k-preserved
loop-k-preserved g c =
    puts-numbered_next (latch_lines (look_in c.args.view.now) (drawn_in c.args.view.now) c.args.first) c.args.first c.args.latches.now c.loop-k.k _
    c.loop-k-test.true c.index-latches-k.is c.loop-k.invariant c.put_drawn_latch.ensures

pub bounds-latches-k : goal.bounds-latches-k
bounds-latches-k g c = c.loop-k-test.true

pub returns : goal.returns
returns g c = puts-numbered_end (latch_lines (look_in c.args.view.now) (drawn_in c.args.view.now) c.args.first) c.args.first c.args.latches.now _ c.loop-k-test.false c.loop-k.invariant
