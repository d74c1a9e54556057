use Rattle.std.proofs.Common.{take}
use Rattle.std.specs.List.{flat_map}
use Rattle.counted_io.specs.Buffered.{Puts}
use Rattle.witnesses.specs.Texts.{digit_text}
use Rattle.witnesses.proofs.writing.put_digits.Given as goal

abbrev pub invariant-loop-digit : goal.invariant-loop-digit
invariant-loop-digit g l = Puts g.W.CountedWrite.output l.fn.out l.out (flat_map digit_text (take l.digit-index l.digits))
