use Rattle.file_words.specs.Text.{input_rows}
use Rattle.counted_io.specs.Buffered.{Puts}
use Rattle.aag_text.proofs.graph.put_inputs.Given as goal

abbrev pub invariant-loop-input : goal.invariant-loop-input
invariant-loop-input g l = Puts g.W.CountedWrite.output l.fn.out l.out (input_rows l.input)
