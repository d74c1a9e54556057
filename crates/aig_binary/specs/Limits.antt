-- The limits of a header, for what is read.
use Rattle.std.specs.Prelude.{ℕ, ◌≡◌, List, Ok}
use Rattle.aig_graph.specs.Circuits.{Netlist}
use Rattle.ascii_file.specs.Laws.{IsWithinLimits}
use Rattle.aig_binary.specs.Spellings.{read_any}

-- a circuit that is read is within the limits
abbrev pub ReadsWithin : List ℕ → Type 0
ReadsWithin bytes = (c : Netlist) → read_any bytes ≡ Ok c → IsWithinLimits c
