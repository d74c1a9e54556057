use Rattle.std.proofs.Common.{take}
use Rattle.counted_io.specs.Buffered.{Puts}
use Rattle.counted_io.specs.Line.{numbered_lines}
use Rattle.pictures.specs.Pictures.{centre_line}
use Rattle.pictures.proofs.middle.put_marked.Given as goal

abbrev pub invariant-loop-k : goal.invariant-loop-k
invariant-loop-k g l = Puts g.W.CountedWrite.output l.fn.out l.out (numbered_lines centre_line 0 (take l.k l.marks))
