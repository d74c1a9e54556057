use Rattle.std.proofs.Common.{◌-◌, ◌^◌, vec_len}
use Rattle.counted_io.proofs.InputLaws.{ReadsFirst}
use Rattle.counted_io.proofs.reading.read_all.Given as goal

abbrev pub invariant-loop-bytes : goal.invariant-loop-bytes
invariant-loop-bytes g l = ReadsFirst (g.R.CountedRead.input l.fn.reader) (g.R.CountedRead.input l.reader) l.bytes.items

-- a vector has fewer bytes than this
abbrev pub decreases-loop-bytes : goal.decreases-loop-bytes
decreases-loop-bytes g l = 2 ^ 64 - vec_len l.bytes
