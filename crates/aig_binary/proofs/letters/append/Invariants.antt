use Rattle.std.proofs.Common.{◌≡◌, ◌++◌, take}
use Rattle.aig_binary.proofs.letters.append.Given as goal

abbrev pub invariant-loop-byte : goal.invariant-loop-byte
invariant-loop-byte l = l.letters.items ≡ take 3 (l.fn.letters.items ++ take l.byte-index l.bytes)
