-- The limits of a header's numbers, each by itself.
use Rattle.std.specs.Prelude.{◌+◌, ◌-◌, ◌^◌, nat_lt, Bool, List, [], ◌∷◌, Option, Some, None, Result, Ok, Err}
use Rattle.file_words.specs.declared.fault.ReadError.{ReadError}
use Rattle.file_words.specs.declared.fault.ReadError.TheVariants.{BadHeader, TooLarge}
use Rattle.ascii_file.specs.declared.header.Header.{Header}
use Rattle.ascii_file.specs.Reading.{unless}

-- the checks of a header's numbers one by one
abbrev pub limits : Header → List (Bool × ReadError)
limits h =
    (nat_lt (2 ^ 28 - 1) h.greatest, TooLarge 0) ∷ (nat_lt (2 ^ 24) h.outputs, TooLarge 0) ∷ (nat_lt (2 ^ 24) h.bad, TooLarge 0) ∷ (nat_lt (2 ^ 24) h.constraints, TooLarge 0)
    ∷ (nat_lt (2 ^ 24) h.justice, TooLarge 0) ∷ (nat_lt (2 ^ 24) h.fairness, TooLarge 0) ∷ []

-- the header, if there is one and its numbers are within their limits
abbrev pub limited : Option Header → Result Header ReadError
limited None = Err (BadHeader 0)
limited (Some h) = unless (limits h) (Ok h)

-- more variables are counted than the greatest
abbrev pub counts_past_greatest : Header → Bool
counts_past_greatest h = nat_lt h.greatest (h.inputs + h.latches + h.gates)
