use Rattle.std.proofs.Common.{◌≡◌, map, take}
use Rattle.witnesses.specs.Rows.{digit_of}
use Rattle.witnesses.proofs.rows.digits.Given as goal

abbrev pub invariant-loop-byte : goal.invariant-loop-byte
invariant-loop-byte l = l.digits.items ≡ map digit_of (take l.byte-index l.bytes)
