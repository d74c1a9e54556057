use Rattle.std.proofs.Common.{take}
use Rattle.std.specs.List.{flat_map}
use Rattle.counted_io.specs.Buffered.{Puts}
use Rattle.circuit_files.specs.pages.HintedLines.{shown_byte}
use Rattle.circuit_files.proofs.pages.name_hints.put_printable.Given as goal

abbrev pub invariant-loop-byte : goal.invariant-loop-byte
invariant-loop-byte g l = Puts g.W.CountedWrite.output l.fn.out l.out (flat_map shown_byte (take l.byte-index l.name))
