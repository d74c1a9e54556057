use Rattle.std.proofs.Common.{◌+◌, length}
use Rattle.counted_io.specs.Buffered.{Puts}
use Rattle.counted_io.specs.declared.buffered.Buffered.{Buffered}
use Rattle.counted_io.proofs.buffered.Buffered.put.Given as goal

-- what puts the rest puts the whole
abbrev pub invariant-loop-rest : goal.invariant-loop-rest
invariant-loop-rest g l =
    (end : Buffered g.row.W.Denot) → Puts g.W.CountedWrite.output l.self end l.rest → Puts g.W.CountedWrite.output l.fn.self end l.bytes

abbrev pub decreases-loop-rest : goal.decreases-loop-rest
decreases-loop-rest g l = length l.rest + length l.self.waiting
