use Rattle.std.proofs.Common.{take}
use Rattle.counted_io.specs.Buffered.{Puts}
use Rattle.moving_commands.specs.Printing.{backward_frame_lines}
use Rattle.moving_commands.proofs.lines.put_frames.Given as goal

abbrev pub invariant-loop-k : goal.invariant-loop-k
invariant-loop-k g l = Puts g.W.CountedWrite.output l.fn.out l.out (backward_frame_lines (take l.k l.frames))
