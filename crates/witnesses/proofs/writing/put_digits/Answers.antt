use Rattle.std.proofs.Common.{arith}
use Rattle.std.proofs.lemmas.List.{get_or_default}
use Rattle.counted_io.proofs.BufferedLaws.{puts-end, puts-next}
use Rattle.witnesses.specs.Texts.{digit_text}
use Rattle.witnesses.proofs.writing.put_digits.Goals as goal

pub loop-digit-preserved : goal.loop-digit-preserved
loop-digit-preserved g c =
    puts-next digit_text c.args.digits.now c.loop-digit.digit-index _ c.loop-digit-test.true (get_or_default c.args.digits.now c.loop-digit.digit-index _ _ c.loop-digit-test.true) c.loop-digit.invariant (rw c.digit_code.ensures at c.put_byte.ensures)

pub returns : goal.returns
returns g c = puts-end digit_text c.args.digits.now _ (omega (arith, c.loop-digit-test.false)) c.loop-digit.invariant
