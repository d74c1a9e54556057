use Rattle.std.proofs.Common.{take}
use Rattle.counted_io.specs.Line.{numbered_lines}
use Rattle.pictures.specs.Pictures.{latch_lines}
use Rattle.pictures.specs.Views.{drawn_in, look_in}
use Rattle.counted_io.specs.Buffered.{Puts}
use Rattle.pictures.proofs.graph.put_latches.Given as goal

abbrev pub invariant-loop-k : goal.invariant-loop-k
invariant-loop-k g l = Puts g.W.CountedWrite.output l.fn.out l.out (numbered_lines (latch_lines (look_in l.view) (drawn_in l.view) l.first) l.first (take l.k l.latches))
