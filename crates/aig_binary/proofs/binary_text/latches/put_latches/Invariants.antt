use Rattle.std.proofs.Common.{take}
use Rattle.file_words.specs.Text.{numbered_rows}
use Rattle.counted_io.specs.Buffered.{Puts}
use Rattle.aig_binary.specs.Text.{next_row}
use Rattle.aig_binary.proofs.binary_text.latches.put_latches.Given as goal

abbrev pub invariant-loop-k : goal.invariant-loop-k
invariant-loop-k g l = Puts g.W.CountedWrite.output l.fn.out l.out (numbered_rows next_row l.first (take l.k l.latches))
