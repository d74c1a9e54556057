use Rattle.std.proofs.Common.{take}
use Rattle.file_words.specs.Text.{single_rows}
use Rattle.counted_io.specs.Buffered.{Puts}
use Rattle.aag_text.proofs.properties.put_literals.Given as goal

abbrev pub invariant-loop-lit : goal.invariant-loop-lit
invariant-loop-lit g l = Puts g.W.CountedWrite.output l.fn.out l.out (single_rows (take l.lit-index l.lits))
