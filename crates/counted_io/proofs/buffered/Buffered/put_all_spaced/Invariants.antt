use Rattle.std.proofs.Common.{take}
use Rattle.std.specs.List.{flat_map}
use Rattle.counted_io.specs.Buffered.{Puts}
use Rattle.counted_io.specs.Line.{spaced}
use Rattle.counted_io.proofs.buffered.Buffered.put_all_spaced.Given as goal

abbrev pub invariant-loop-number : goal.invariant-loop-number
invariant-loop-number g l = Puts g.W.CountedWrite.output l.fn.self l.self (flat_map spaced (take l.number-index l.numbers))
