-- A smallest circuit file with each fault that a circuit can have.
use Rattle.std.specs.Prelude.{ℕ, List, [], codes, Option, Some, None}
use Rattle.circuit_files.specs.declared.pages.named_fault.Fault.{Fault}
use Rattle.circuit_files.specs.declared.pages.named_fault.Fault.TheVariants.{BadHeader, TooLarge, MaxIndex, BadLine, BadLiteral, DefinedTwice, Undefined, Cycle, BadReset, BadDelta, Truncated, BadSymbol, Trailing}

-- a smallest file with this fault of a circuit; none if no circuit has the fault
abbrev pub smallest_file : Fault → Option (List ℕ)
smallest_file BadHeader = Some []
smallest_file TooLarge = Some (codes "aag 0 0 0 16777217 0")
smallest_file MaxIndex = Some (codes "aag 0 0 0 0 1")
smallest_file BadLine = Some (codes "aag 0 0 0 1 0\nx")
smallest_file BadLiteral = Some (codes "aag 1 1 0 0 0\n3")
smallest_file DefinedTwice = Some (codes "aag 2 2 0 0 0\n2\n2")
smallest_file Undefined = Some (codes "aag 1 0 0 1 0\n2")
smallest_file Cycle = Some (codes "aag 1 0 0 0 1\n2 2 1")
smallest_file BadReset = Some (codes "aag 1 0 1 0 0\n2 2 3")
smallest_file BadDelta = Some (codes "aig 1 0 0 0 1\n9")
smallest_file Truncated = Some (codes "aag 0 0 0 1 0")
smallest_file BadSymbol = Some (codes "aag 0 0 0 0 0\no")
smallest_file Trailing = Some (codes "aag 0 0 0 0 0\nx")
smallest_file fault = None
