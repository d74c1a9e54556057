-- The text of a witness.
use Rattle.std.specs.Prelude.{ℕ, ◌++◌, List, [], ◌∷◌, length, codes, Result, Ok, Err, if◌then◌else◌}
use Rattle.file_words.specs.Answering.{◌>>=◌}
use Rattle.file_words.specs.Lines.{pieces, is_word}
use Rattle.witnesses.specs.declared.witness.Digit.{Digit}
use Rattle.witnesses.specs.declared.witness.Property.{Property}
use Rattle.witnesses.specs.declared.witness.Witness.{Witness}
use Rattle.witnesses.specs.declared.widths.Widths.{Widths}
use Rattle.witnesses.specs.declared.fault.WitnessError.{WitnessError}
use Rattle.witnesses.specs.declared.fault.WitnessError.TheVariants.{BadHeader, Truncated, Trailing}
use Rattle.witnesses.specs.Statements.{Statement, lines_left}
use Rattle.witnesses.specs.Rows.{row_of}
use Rattle.witnesses.specs.Properties.{properties_of}

-- what was read, and the lines that are left
abbrev pub followed : {X : Type 0} → List Statement → Result X WitnessError → Result (X × List Statement) WitnessError
followed rest (Ok x) = Ok (x, rest)
followed rest (Err fault) = Err fault

-- first comes a line that is 1
abbrev pub status_from : ℕ → List Statement → Result (List Statement) WitnessError
status_from end [] = Err (Truncated end)
status_from end (line ∷ rest) = if is_word line.text (codes "1") then Ok rest else Err (BadHeader line.at)

-- then the properties
abbrev pub properties_from : Widths → ℕ → List Statement → Result (List Property × List Statement) WitnessError
properties_from w end [] = Err (Truncated end)
properties_from w end (line ∷ rest) = followed rest (properties_of w line.at [] (pieces line.text))

-- then a value for each latch
abbrev pub latches_from : ℕ → ℕ → List Statement → Result (List Digit × List Statement) WitnessError
latches_from width end [] = Err (Truncated end)
latches_from width end (line ∷ rest) = followed rest (row_of width line.at line.text)

-- the steps after one more line
abbrev pub with_step : ℕ → ℕ → List ℕ → List (List Digit) → Result (List (List Digit)) WitnessError
with_step width at text steps = row_of width at text >>= λ row. Ok (steps ++ row ∷ [])

-- then a value for each input, step by step, up to a line that is a full stop
unfoldable pub steps_from : ℕ → ℕ → List (List Digit) → List Statement → Result (List (List Digit) × List Statement) WitnessError
steps_from width end steps [] = Err (Truncated end)
steps_from width end steps (line ∷ rest) =
    if is_word line.text (codes ".") then Ok (steps, rest) else (with_step width line.at line.text steps >>= λ more. steps_from width end more rest)

-- and nothing more
abbrev pub closed_witness : Witness → List Statement → Result Witness WitnessError
closed_witness w [] = Ok w
closed_witness w (line ∷ rest) = Err (Trailing line.at)

-- the parts of a witness, one after another
abbrev pub inputs_then : Widths → ℕ → List Property → List Digit → List Statement → Result Witness WitnessError
inputs_then w end properties latches rest =
    steps_from w.inputs end [] rest >>= λ inputs. closed_witness (record { properties = properties; latches = latches; inputs = inputs.0 }) inputs.1

abbrev pub latches_then : Widths → ℕ → List Property → List Statement → Result Witness WitnessError
latches_then w end properties rest = latches_from w.latches end rest >>= λ latches. inputs_then w end properties latches.0 latches.1

abbrev pub properties_then : Widths → ℕ → List Statement → Result Witness WitnessError
properties_then w end rest = properties_from w end rest >>= λ properties. latches_then w end properties.0 properties.1

-- the witness of a text, or its first fault
abbrev pub read_text : Widths → List ℕ → Result Witness WitnessError
read_text w bytes = status_from (length bytes) (lines_left (length bytes) bytes) >>= properties_then w (length bytes)
