use Rattle.std.proofs.Common.{take}
use Rattle.counted_io.specs.Buffered.{Puts}
use Rattle.counted_io.specs.Line.{numbered_lines}
use Rattle.reports.specs.waves.Dumps.{wave_line}
use Rattle.reports.proofs.waves.dump.put_waves.Given as goal

abbrev pub invariant-loop-k : goal.invariant-loop-k
invariant-loop-k g l = Puts g.W.CountedWrite.output l.fn.out l.out (numbered_lines (wave_line l.sequence) 0 (take l.k l.names))
