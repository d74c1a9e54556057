use Rattle.std.proofs.Common.{take}
use Rattle.std.specs.List.{flat_map}
use Rattle.file_words.specs.Text.{single_rows}
use Rattle.counted_io.specs.Buffered.{Puts}
use Rattle.aag_text.proofs.properties.put_justice.Given as goal

abbrev pub invariant-loop-lits : goal.invariant-loop-lits
invariant-loop-lits g l = Puts g.W.CountedWrite.output l.fn.out l.out (flat_map single_rows (take l.lits-index l.justice))
