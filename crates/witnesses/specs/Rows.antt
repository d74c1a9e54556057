-- Lines of values.
use Rattle.std.specs.Prelude.{ℕ, ◌==◌, ◌||◌, Bool, List, length, map, Result, Ok, Err, if◌then◌else◌}
use Rattle.std.specs.List.{list_all}
use Rattle.witnesses.specs.declared.witness.Digit.{Digit}
use Rattle.witnesses.specs.declared.witness.Digit.TheVariants.{Zero, One, Either}
use Rattle.witnesses.specs.declared.fault.WitnessError.{WitnessError}
use Rattle.witnesses.specs.declared.fault.WitnessError.TheVariants.{BadLine, Width}

-- 0, 1, or x for either
abbrev pub is_ternary_digit : ℕ → Bool
is_ternary_digit b = (b == 48 || b == 49) || b == 120

abbrev pub digit_of : ℕ → Digit
digit_of b = if b == 48 then Zero else (if b == 49 then One else Either)

-- the values of a line, of which there are to be n
abbrev pub row_of : ℕ → ℕ → List ℕ → Result (List Digit) WitnessError
row_of width at text =
    if list_all is_ternary_digit text then (if length text == width then Ok (map digit_of text) else Err (Width at)) else Err (BadLine at)
