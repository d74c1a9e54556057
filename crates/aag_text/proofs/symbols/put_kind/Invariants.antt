use Rattle.std.proofs.Common.{take}
use Rattle.file_words.specs.Text.{symbol_lines}
use Rattle.counted_io.specs.Buffered.{Puts}
use Rattle.aag_text.proofs.symbols.put_kind.Given as goal

abbrev pub invariant-loop-symbol : goal.invariant-loop-symbol
invariant-loop-symbol g l = Puts g.W.CountedWrite.output l.fn.out l.out (symbol_lines l.letter (take l.symbol-index l.symbols))
