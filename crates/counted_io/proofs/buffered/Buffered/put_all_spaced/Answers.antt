use Rattle.std.proofs.lemmas.List.{get_or_default}
use Rattle.counted_io.specs.Line.{spaced}
use Rattle.counted_io.proofs.BufferedLaws.{puts-end, puts-next}
use Rattle.counted_io.proofs.buffered.Buffered.put_all_spaced.Goals as goal

pub returns : goal.returns
returns g c = puts-end spaced _ _ c.loop-number-test.false c.loop-number.invariant

pub loop-number-preserved : goal.loop-number-preserved
loop-number-preserved g c =
    puts-next spaced _ _ _ c.loop-number-test.true (get_or_default _ _ _ _ c.loop-number-test.true) c.loop-number.invariant c.put_spaced.ensures
