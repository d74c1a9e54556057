use Rattle.std.proofs.Common.{take}
use Rattle.file_words.specs.Text.{gate_row, numbered_rows}
use Rattle.counted_io.specs.Buffered.{Puts}
use Rattle.aag_text.proofs.graph.put_gates.Given as goal

abbrev pub invariant-loop-k : goal.invariant-loop-k
invariant-loop-k g l = Puts g.W.CountedWrite.output l.fn.out l.out (numbered_rows gate_row l.first (take l.k l.gates))
