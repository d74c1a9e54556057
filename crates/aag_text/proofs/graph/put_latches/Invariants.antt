use Rattle.std.proofs.Common.{take}
use Rattle.file_words.specs.Text.{latch_row, numbered_rows}
use Rattle.counted_io.specs.Buffered.{Puts}
use Rattle.aag_text.proofs.graph.put_latches.Given as goal

abbrev pub invariant-loop-k : goal.invariant-loop-k
invariant-loop-k g l = Puts g.W.CountedWrite.output l.fn.out l.out (numbered_rows latch_row l.first (take l.k l.latches))
