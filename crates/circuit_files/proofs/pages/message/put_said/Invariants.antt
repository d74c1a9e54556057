use Rattle.std.proofs.Common.{map, take}
use Rattle.counted_io.specs.Buffered.{Puts}
use Rattle.circuit_files.specs.pages.Messages.{said_byte}
use Rattle.circuit_files.proofs.pages.message.put_said.Given as goal

abbrev pub invariant-loop-byte : goal.invariant-loop-byte
invariant-loop-byte g l = Puts g.W.CountedWrite.output l.fn.out l.out (map said_byte (take l.byte-index l.bytes))
