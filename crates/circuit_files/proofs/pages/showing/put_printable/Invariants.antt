use Rattle.std.proofs.Common.{◌≡◌, ◌++◌, map, take}
use Rattle.circuit_files.specs.pages.Lines.{printable}
use Rattle.circuit_files.proofs.pages.showing.put_printable.Given as goal

abbrev pub invariant-loop-byte : goal.invariant-loop-byte
invariant-loop-byte l = l.text.items ≡ l.fn.text.items ++ map printable (take l.byte-index l.bytes)
