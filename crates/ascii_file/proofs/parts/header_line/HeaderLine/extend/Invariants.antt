use Rattle.std.proofs.Common.{◌≡◌, ℕ, List, ◌++◌, drop}
use Rattle.ascii_file.specs.parts.Header.{header_with}
use Rattle.ascii_file.proofs.parts.header_line.HeaderLine.extend.Given as goal

abbrev pub invariant-loop-byte : goal.invariant-loop-byte
invariant-loop-byte l = (rest : List ℕ) → header_with l.self (drop l.byte-index l.part ++ rest) ≡ header_with l.fn.self (l.part ++ rest)
