-- The line of the properties that fail.
use Rattle.std.specs.Prelude.{ℕ, ◌==◌, ◌++◌, Bool, nat_lt, List, [], ◌∷◌, Option, Some, None, Result, Ok, Err, if◌then◌else◌}
use Rattle.std.specs.Option.{option_and_then}
use Rattle.file_words.specs.Answering.{◌>>=◌}
use Rattle.file_words.specs.Numbers.{number_of}
use Rattle.witnesses.specs.declared.witness.Property.{Property}
use Rattle.witnesses.specs.declared.witness.Property.TheVariants.{Bad, Justice}
use Rattle.witnesses.specs.declared.widths.Widths.{Widths}
use Rattle.witnesses.specs.declared.fault.WitnessError.{WitnessError}
use Rattle.witnesses.specs.declared.fault.WitnessError.TheVariants.{BadLine, NoSuchProperty}

-- b is a bad state, j a justice property
abbrev pub lettered : ℕ → ℕ → Option Property
lettered letter n = if letter == 98 then Some (Bad n) else (if letter == 106 then Some (Justice n) else None)

-- the property that a word names
abbrev pub property_of : List ℕ → Option Property
property_of [] = None
property_of (letter ∷ digits) = option_and_then (lettered letter) (number_of digits)

abbrev pub has_property : Widths → Property → Bool
has_property w (Bad n) = nat_lt n w.bad
has_property w (Justice n) = nat_lt n w.justice

-- the property, if there is one
abbrev pub checked : Widths → ℕ → Option Property → Result Property WitnessError
checked w at None = Err (BadLine at)
checked w at (Some property) = if has_property w property then Ok property else Err (NoSuchProperty at)

-- the properties after one more word
abbrev pub with_property : Widths → ℕ → List Property → List ℕ → Result (List Property) WitnessError
with_property w at properties word = checked w at (property_of word) >>= λ property. Ok (properties ++ property ∷ [])

-- the properties after these words, or the first fault
unfoldable pub properties_of : Widths → ℕ → List Property → List (List ℕ) → Result (List Property) WitnessError
properties_of w at properties [] = Ok properties
properties_of w at properties (word ∷ words) = with_property w at properties word >>= λ more. properties_of w at more words
