-- Names by kind and position.
use Rattle.std.specs.Prelude.{ℕ, ◌≡◌, ◌==◌, Bool, List, [], ◌∷◌, ◌++◌, map, if◌then◌else◌}
use Rattle.std.specs.List.{list_any}
use Rattle.aig_graph.specs.declared.properties.Symbol.{Symbol}
use Rattle.aig_graph.specs.declared.properties.Symbols.{Symbols}
use Rattle.ascii_file.specs.declared.raw.SymbolKind.{SymbolKind}
use Rattle.ascii_file.specs.declared.raw.SymbolKind.TheVariants.{Input, Latch, Output, Bad, Constraint, Justice, Fairness}
use Rattle.ascii_file.specs.Raw.{RawSymbol}
use Rattle.ascii_file.specs.Meaning.{with_symbol, symbols_of}

-- the symbol of a kind, a position and a name
abbrev pub symbol_at : SymbolKind → ℕ → List ℕ → RawSymbol
symbol_at kind position name = record { kind = kind; position = position; name = name }

-- the names are those of these symbols of a file
abbrev pub AreNamesOf : Symbols → List RawSymbol → Type 0
AreNamesOf names symbols = names ≡ symbols_of symbols

-- the symbols, with one more if it is new
abbrev pub with_new : Bool → List RawSymbol → RawSymbol → List RawSymbol
with_new is_new symbols symbol = if is_new then symbols ++ symbol ∷ [] else symbols

-- names by position as symbols
abbrev pub symbols_in : List (ℕ × List ℕ) → List Symbol
symbols_in entries = map (λ entry. record { position = entry.0; name = entry.1 }) entries

-- whether one of the names of a kind has this position
abbrev pub has_position : List Symbol → ℕ → Bool
has_position names position = list_any (λ symbol. position == symbol.position) names

-- the names of one kind
abbrev pub names_of_kind : Symbols → SymbolKind → List Symbol
names_of_kind names Input = names.inputs
names_of_kind names Latch = names.latches
names_of_kind names Output = names.outputs
names_of_kind names Bad = names.bad
names_of_kind names Constraint = names.constraints
names_of_kind names Justice = names.justice
names_of_kind names Fairness = names.fairness

-- the names with one more
abbrev pub with_symbol_in : Symbols → RawSymbol → Symbols
with_symbol_in names symbol = record {
  inputs = with_symbol Input names.inputs symbol;
  latches = with_symbol Latch names.latches symbol;
  outputs = with_symbol Output names.outputs symbol;
  bad = with_symbol Bad names.bad symbol;
  constraints = with_symbol Constraint names.constraints symbol;
  justice = with_symbol Justice names.justice symbol;
  fairness = with_symbol Fairness names.fairness symbol;
}
