use Rattle.std.proofs.Common.{take}
use Rattle.std.specs.List.{flat_map}
use Rattle.counted_io.specs.Buffered.{Puts}
use Rattle.witnesses.specs.Texts.{reached_text}
use Rattle.witnesses.proofs.writing.put_all_reached.Given as goal

abbrev pub invariant-loop-one : goal.invariant-loop-one
invariant-loop-one g l = Puts g.W.CountedWrite.output l.fn.out l.out (flat_map reached_text (take l.one-index l.reached))
