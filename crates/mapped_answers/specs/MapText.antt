-- The text of a map, and bytes that are read as the numbers of its gates.
use Rattle.std.specs.Prelude.{ℕ, suc, ◌<◌, ◌≡◌, ◌^◌, ◌++◌, List, codes}
use Rattle.aig_graph.specs.Circuits.{Netlist}
use Rattle.aig_graph.specs.Graph.{first_latch}
use Rattle.counted_io.specs.Line.{line}
use Rattle.file_words.specs.Text.{header_row, numbered_rows, property_rows}
use Rattle.aig_binary.specs.Text.{next_row}
use Rattle.binary_file.specs.Deltas.{bytes_within}

-- the binary text of a circuit up to its gates
unfoldable pub before_gates : Netlist → List ℕ
before_gates c = codes "aig " ++ line (header_row c) ++ numbered_rows next_row (first_latch c.aig) c.aig.latches ++ property_rows c.props

-- The bytes begin with those of n, a number of 32 bits. At most `more` bytes follow the first one,
-- and then come those of the tail.
pub record BeginsWith (more n : ℕ) (tail bytes : List ℕ) : Type 0 where
  pub small : n < 128 ^ (suc more)
  pub word : n < 2 ^ 32
  pub is : bytes ≡ bytes_within more n ++ tail
