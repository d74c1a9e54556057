-- What each wave is called.
use Rattle.std.specs.Prelude.{ℕ, zero, suc, ◌==◌, ◌&&◌, not, nat_lt, Bool, List, [], ◌∷◌, ◌++◌, length, map, take, get_or, decimal, bytes_eq, if◌then◌else◌}
use Rattle.std.specs.List.{list_any, slice_set}
use Rattle.std.specs.Str.{byte}
use Rattle.aig_graph.specs.Tables.{table}
use Rattle.aig_graph.specs.declared.properties.Props.{Props}
use Rattle.aig_graph.specs.declared.properties.Symbol.{Symbol}
use Rattle.aig_graph.specs.declared.properties.Symbols.{Symbols}
use Rattle.aig_graph.specs.Circuits.{Netlist}

-- A byte of a name in a reference. Printable ASCII but blanks stands for itself. The words of the
-- format begin with the dollar sign, and names are told apart by another sign, so these two don't.
abbrev pub is_legal : ℕ → Bool
is_legal b = ((nat_lt 32 b && nat_lt b 127) && not (b == byte "$")) && not (b == byte "@")

abbrev pub legal_byte : ℕ → ℕ
legal_byte b = if is_legal b then b else byte "_"

-- the bytes of a symbol, as a reference may have them
abbrev pub legal_name : List ℕ → List ℕ
legal_name name = map legal_byte name

-- what has no name is called by the letter of its kind and its position
abbrev pub default_name : ℕ → ℕ → List ℕ
default_name letter position = letter ∷ decimal position

-- the names with that of a symbol in its place; one without bytes is none
unfoldable pub with_legal_name : List (List ℕ) → Symbol → List (List ℕ)
with_legal_name names s = if nat_lt s.position (length names) && not (length s.name == 0) then slice_set names s.position (legal_name s.name) else names

abbrev pub with_symbols : List (List ℕ) → List Symbol → List (List ℕ)
with_symbols names [] = names
with_symbols names (s ∷ symbols) = with_symbols (with_legal_name names s) symbols

-- the names of a kind, of which there are n
unfoldable pub kind_names : ℕ → ℕ → List Symbol → List (List ℕ)
kind_names letter count symbols = with_symbols (table 0 count (default_name letter)) symbols

-- a literal of a justice property is called by both its numbers
abbrev pub literal_word : ℕ → ℕ → List ℕ
literal_word property position = default_name (byte "j") property ++ byte "." ∷ decimal position

abbrev pub property_words : ℕ → ℕ → List (List ℕ)
property_words property count = table 0 count (literal_word property)

-- those of the first n properties
abbrev pub words_before : List (List ℕ) → ℕ → List (List ℕ)
words_before justice zero = []
words_before justice (suc n) = words_before justice n ++ property_words n (length (get_or justice n []))

unfoldable pub justice_words : List (List ℕ) → List (List ℕ)
justice_words justice = words_before justice (length justice)

-- names, and then those of the properties
abbrev pub with_properties : List (List ℕ) → Props → Symbols → List (List ℕ)
with_properties names p s =
    names ++ kind_names (byte "o") (length p.outputs) s.outputs ++ kind_names (byte "b") (length p.bad) s.bad
    ++ kind_names (byte "c") (length p.constraints) s.constraints ++ justice_words p.justice ++ kind_names (byte "f") (length p.fairness) s.fairness

-- the names of what is shown, in the order of its literals
abbrev pub own_names : Netlist → List (List ℕ)
own_names c =
    with_properties (kind_names (byte "i") c.aig.inputs c.symbols.inputs ++ kind_names (byte "l") (length c.aig.latches) c.symbols.latches) c.props c.symbols

-- a name, which says its place if that is asked for
abbrev pub apart_where : Bool → List ℕ → ℕ → List ℕ
apart_where again name place = if again then name ++ byte "@" ∷ decimal place else name

-- whether an earlier wave has the name of this one
abbrev pub is_again : List (List ℕ) → ℕ → Bool
is_again names place = list_any (bytes_eq (get_or names place [])) (take place names)

abbrev pub apart : List (List ℕ) → ℕ → List ℕ
apart names place = apart_where (is_again names place) (get_or names place []) place

-- all names: of those that are one, all but the first say their places
unfoldable pub told_apart : List (List ℕ) → List (List ℕ)
told_apart names = table 0 (length names) (apart names)

-- what each wave of a circuit is called
abbrev pub wave_names : Netlist → List (List ℕ)
wave_names c = told_apart (own_names c)
