use Rattle.std.proofs.Common.{length}
use Rattle.counted_io.specs.Output.{Output, WritesAll, WritesPart}
use Rattle.counted_io.proofs.writing.write_all.Given as goal

-- what completes the rest completes the whole
abbrev pub invariant-loop-rest : goal.invariant-loop-rest
invariant-loop-rest g l =
    let start = g.W.CountedWrite.output l.fn.writer in let here = g.W.CountedWrite.output l.writer in
    ((end : Output) → WritesAll here end l.rest → WritesAll start end l.bytes)
    × ((end : Output) → WritesPart here end l.rest → WritesPart start end l.bytes)

abbrev pub decreases-loop-rest : goal.decreases-loop-rest
decreases-loop-rest g l = length l.rest
