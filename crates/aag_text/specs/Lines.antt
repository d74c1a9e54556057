-- A line that is open: some of its bytes have come.
use Rattle.std.specs.Prelude.{ℕ, ◌≡◌, Bool, true, false, List, ◌++◌}
use Rattle.ascii_file.specs.parts.Rows.{row_of}
use Rattle.ascii_file.specs.parts.Open.{numbers_with}
use Rattle.ascii_file.specs.parts.Symbols.{text_of, text_with}
use Rattle.aag_text.specs.declared.lines.OpenLine.{OpenLine}
use Rattle.aag_text.specs.declared.lines.OpenLine.TheVariants.{Numbers, Symbol, Comment}

-- These bytes of the line have come, after all items but symbols or before. Whatever the rest, it
-- makes of the line what the whole line is.
abbrev pub IsOpen : OpenLine → Bool → List ℕ → Type 0
IsOpen (Numbers line) complete begun = (complete ≡ false) × ((rest : List ℕ) → numbers_with line rest ≡ row_of (begun ++ rest))
IsOpen (Symbol line) complete begun = (complete ≡ true) × ((rest : List ℕ) → text_with line rest ≡ text_of (begun ++ rest))
IsOpen Comment complete begun = complete ≡ true

abbrev pub is_comment : OpenLine → Bool
is_comment Comment = true
is_comment line = false
