use Rattle.std.proofs.Common.{arith}
use Rattle.std.proofs.lemmas.List.{get_or_default}
use Rattle.counted_io.proofs.BufferedLaws.{puts-end, puts-next}
use Rattle.witnesses.specs.Texts.{reached_text}
use Rattle.witnesses.proofs.writing.put_all_reached.Goals as goal

pub loop-one-preserved : goal.loop-one-preserved
loop-one-preserved g c =
    puts-next reached_text c.args.reached.now c.loop-one.one-index _ c.loop-one-test.true (get_or_default c.args.reached.now c.loop-one.one-index _ _ c.loop-one-test.true) c.loop-one.invariant c.put_reached.ensures

pub returns : goal.returns
returns g c = puts-end reached_text c.args.reached.now _ (omega (arith, c.loop-one-test.false)) c.loop-one.invariant
