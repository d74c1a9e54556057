-- The text of a circuit.
use Rattle.std.specs.Prelude.{ℕ, ◌-◌, ◌*◌, ◌==◌, List, [], ◌∷◌, ◌++◌, length, decimal, codes, map, if◌then◌else◌}
use Rattle.std.specs.Str.{byte}
use Rattle.std.specs.List.{flat_map, enumerate_from, list_all, range_with_len}
use Rattle.aig_graph.specs.declared.graph.Gate.{Gate}
use Rattle.aig_graph.specs.declared.graph.Latch.{Latch}
use Rattle.aig_graph.specs.declared.graph.Reset.{Reset}
use Rattle.aig_graph.specs.declared.graph.Reset.TheVariants.{Zero, One, Free}
use Rattle.aig_graph.specs.declared.properties.Props.{Props}
use Rattle.aig_graph.specs.declared.properties.Symbol.{Symbol}
use Rattle.aig_graph.specs.declared.properties.Symbols.{Symbols}
use Rattle.aig_graph.specs.Graph.{first_latch, first_gate, variables_end}
use Rattle.aig_graph.specs.Circuits.{Netlist}
use Rattle.counted_io.specs.Line.{line}

-- the numbers up to the last one that isn't 0
abbrev pub without_last_zeros : List ℕ → List ℕ
without_last_zeros [] = []
without_last_zeros (n ∷ ns) = if list_all (λ m. m == 0) (n ∷ ns) then [] else n ∷ without_last_zeros ns

-- the numbers of the header
abbrev pub header_row : Netlist → List ℕ
header_row c =
    (variables_end c.aig - 1) ∷ c.aig.inputs ∷ length c.aig.latches ∷ length c.props.outputs ∷ length c.aig.gates
    ∷ without_last_zeros (length c.props.bad ∷ length c.props.constraints ∷ length c.props.justice ∷ length c.props.fairness ∷ [])

-- the number of a latch's reset, which is left out if it is 0
abbrev pub reset_row : ℕ → Reset → List ℕ
reset_row var Zero = []
reset_row var One = 1 ∷ []
reset_row var Free = 2 * var ∷ []

unfoldable pub latch_row : ℕ → Latch → List ℕ
latch_row var latch = 2 * var ∷ latch.next ∷ reset_row var latch.reset

unfoldable pub gate_row : ℕ → Gate → List ℕ
gate_row var gate = 2 * var ∷ gate.rhs0 ∷ gate.rhs1 ∷ []

-- a row of one number for each
abbrev pub single_rows : List ℕ → List ℕ
single_rows ns = flat_map (λ n. line (n ∷ [])) ns

-- the rows of numbered things, from a number on
abbrev pub numbered_rows : {X : Type 0} → (ℕ → X → List ℕ) → ℕ → List X → List ℕ
numbered_rows numbers first xs = flat_map (λ e. line (numbers e.0 e.1)) (enumerate_from first xs)

-- the rows of the inputs, whose variables are the first
abbrev pub input_rows : ℕ → List ℕ
input_rows inputs = flat_map (λ v. line (2 * v ∷ [])) (range_with_len 1 inputs)

-- the lines of the properties in a circuit's text
abbrev pub property_rows : Props → List ℕ
property_rows p =
    single_rows p.outputs ++ single_rows p.bad ++ single_rows p.constraints
    ++ single_rows (map length p.justice) ++ flat_map single_rows p.justice ++ single_rows p.fairness

-- a letter, a position, a space and a name
unfoldable pub symbol_line : ℕ → Symbol → List ℕ
symbol_line letter symbol = letter ∷ (decimal symbol.position ++ 32 ∷ symbol.name ++ 10 ∷ [])

abbrev pub symbol_lines : ℕ → List Symbol → List ℕ
symbol_lines letter symbols = flat_map (symbol_line letter) symbols

-- the symbols of all kinds
abbrev pub all_symbols : Symbols → List ℕ
all_symbols s =
    symbol_lines (byte "i") s.inputs ++ symbol_lines (byte "l") s.latches ++ symbol_lines (byte "o") s.outputs ++ symbol_lines (byte "b") s.bad
    ++ symbol_lines (byte "c") s.constraints ++ symbol_lines (byte "j") s.justice ++ symbol_lines (byte "f") s.fairness

-- the ASCII text of a circuit
unfoldable pub text : Netlist → List ℕ
text c =
    codes "aag " ++ line (header_row c) ++ input_rows c.aig.inputs
    ++ numbered_rows latch_row (first_latch c.aig) c.aig.latches ++ property_rows c.props
    ++ numbered_rows gate_row (first_gate c.aig) c.aig.gates ++ all_symbols c.symbols
