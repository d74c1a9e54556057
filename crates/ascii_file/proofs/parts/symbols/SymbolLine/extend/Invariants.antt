use Rattle.std.proofs.Common.{◌≡◌, ℕ, List, ◌++◌, drop}
use Rattle.ascii_file.specs.parts.Symbols.{text_with}
use Rattle.ascii_file.proofs.parts.symbols.SymbolLine.extend.Given as goal

abbrev pub invariant-loop-byte : goal.invariant-loop-byte
invariant-loop-byte l = (rest : List ℕ) → text_with l.self (drop l.byte-index l.part ++ rest) ≡ text_with l.fn.self (l.part ++ rest)
