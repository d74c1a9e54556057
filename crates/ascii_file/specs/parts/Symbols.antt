-- A line after the gates, of which some bytes have come.
use Rattle.std.specs.Prelude.{ℕ, ◌==◌, ◌&&◌, Bool, not, List, [], ◌∷◌, ◌++◌, Option, Some, None, if◌then◌else◌}
use Rattle.std.specs.Char.{is_ascii_digit}
use Rattle.ascii_file.specs.declared.raw.SymbolKind.{SymbolKind}
use Rattle.ascii_file.specs.Raw.{kind_number}
use Rattle.ascii_file.specs.Items.{Item, SymbolItem, kind_of, symbol_of, begins_comment}
use Rattle.ascii_file.specs.declared.parts.symbols.SymbolText.{SymbolText}
use Rattle.ascii_file.specs.declared.parts.symbols.SymbolText.TheVariants.{NoSymbol, Comment, Malformed, Name}
use Rattle.ascii_file.specs.declared.parts.symbols.SymbolLine.{SymbolLine}
use Rattle.ascii_file.specs.declared.parts.begun.Begun.{Begun}
use Rattle.ascii_file.specs.declared.parts.begun.Begun.TheVariants as begun
use Rattle.ascii_file.specs.parts.Rows.{clamped, next_digit}

-- what the item of a line is, or a line with no item
abbrev pub unnamed : Option SymbolKind → SymbolText
unnamed None = NoSymbol
unnamed (Some kind) = Malformed

abbrev pub text_without : List ℕ → SymbolText
text_without [] = NoSymbol
text_without (letter ∷ bytes) = unnamed (kind_of letter)

abbrev pub text_of_item : List ℕ → Option Item → SymbolText
text_of_item line (Some (SymbolItem symbol)) = Name symbol.kind (clamped symbol.position) symbol.name
text_of_item line _ = text_without line

-- what a line is
unfoldable pub text_of : List ℕ → SymbolText
text_of line = if begins_comment line then Comment else text_of_item line (symbol_of line)

-- ---- byte by byte

abbrev pub is_constraint : SymbolKind → Bool
is_constraint kind = kind_number kind == 4

-- after a position: the name, if there is a number
abbrev pub named_at : SymbolKind → Option ℕ → List ℕ → SymbolText
named_at kind None name = Malformed
named_at kind (Some position) name = Name kind position name

-- after these digits of a position
unfoldable pub position_with : SymbolKind → Option ℕ → List ℕ → SymbolText
position_with kind number [] = Malformed
position_with kind number (b ∷ rest) = if b == 32 then named_at kind number rest else (if is_ascii_digit b then position_with kind (Some (clamped (next_digit number b))) rest else Malformed)

-- after the letter
abbrev pub letter_with : SymbolKind → List ℕ → SymbolText
letter_with kind [] = if is_constraint kind then Comment else Malformed
letter_with kind (b ∷ rest) = if is_constraint kind && not (is_ascii_digit b) then Comment else position_with kind None (b ∷ rest)

-- after what has come of the line
abbrev pub begun_with : Begun → List ℕ → List ℕ → SymbolText
begun_with begun.Nothing name rest = text_of rest
begun_with (begun.Letter kind) name rest = letter_with kind rest
begun_with (begun.Position kind number) name rest = position_with kind number rest
begun_with (begun.Name kind position) name rest = Name kind position (name ++ rest)
begun_with begun.Comment name rest = Comment
begun_with begun.Malformed name rest = Malformed
begun_with begun.NoSymbol name rest = NoSymbol

-- what a line that has begun comes to if these bytes are its rest
abbrev pub text_with : SymbolLine → List ℕ → SymbolText
text_with line rest = begun_with line.begun line.name.items rest
