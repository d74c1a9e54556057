use Rattle.std.proofs.Common.{take}
use Rattle.std.specs.List.{flat_map}
use Rattle.counted_io.specs.Buffered.{Puts}
use Rattle.fretime.specs.Explaining.{indented_byte}
use Rattle.fretime.proofs.explaining.put_bytes.Given as goal

abbrev pub invariant-loop-byte : goal.invariant-loop-byte
invariant-loop-byte g l = Puts g.W.CountedWrite.output l.fn.out l.out (flat_map indented_byte (take l.byte-index l.bytes))
