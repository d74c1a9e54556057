use Rattle.std.proofs.Common.{length}
use Rattle.ascii_file.specs.order.Readers.{AreReaderTables, read_by}
use Rattle.ascii_file.proofs.order.readers.link.Given as goal

-- the tables as far as the gates so far
abbrev pub invariant-loop-place : goal.invariant-loop-place
invariant-loop-place l = AreReaderTables (read_by l.side l.gates) (length l.gates) l.place l.last l.before
