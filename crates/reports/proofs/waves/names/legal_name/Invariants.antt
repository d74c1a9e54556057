use Rattle.std.proofs.Common.{◌≡◌, map, take}
use Rattle.reports.specs.waves.Names.{legal_byte}
use Rattle.reports.proofs.waves.names.legal_name.Given as goal

abbrev pub invariant-loop-byte : goal.invariant-loop-byte
invariant-loop-byte l = l.bytes.items ≡ map legal_byte (take l.byte-index l.name)
