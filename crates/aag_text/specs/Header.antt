-- The header of a circuit's text.
use Rattle.std.specs.Prelude.{ℕ, ◌-◌, List, [], ◌∷◌, ◌++◌, length, codes}
use Rattle.aig_graph.specs.Graph.{variables_end}
use Rattle.aig_graph.specs.Circuits.{Netlist}
use Rattle.counted_io.specs.Line.{line}
use Rattle.file_words.specs.Text.{header_row}

-- all the numbers that a header can have
abbrev pub header_counts : Netlist → List ℕ
header_counts c =
    (variables_end c.aig - 1) ∷ c.aig.inputs ∷ length c.aig.latches ∷ length c.props.outputs ∷ length c.aig.gates
    ∷ length c.props.bad ∷ length c.props.constraints ∷ length c.props.justice ∷ length c.props.fairness ∷ []

-- the first line
unfoldable pub header_text : Netlist → List ℕ
header_text c = codes "aag " ++ line (header_row c)
