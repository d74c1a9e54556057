use Rattle.std.proofs.Common.{◌≡◌, ℕ, List, ◌++◌, drop}
use Rattle.ascii_file.specs.parts.Open.{numbers_with}
use Rattle.ascii_file.proofs.parts.numbers.NumberLine.extend.Given as goal

abbrev pub invariant-loop-byte : goal.invariant-loop-byte
invariant-loop-byte l = (rest : List ℕ) → numbers_with l.self (drop l.byte-index l.part ++ rest) ≡ numbers_with l.fn.self (l.part ++ rest)
