-- The first line of a binary file.
use Rattle.std.specs.Prelude.{ℕ, ◌+◌, ◌-◌, ◌^◌, ◌≡◌, ◌≤◌, ◌==◌, nat_eq, nat_lt, Bool, not, List, [], ◌∷◌, drop, Option, None, if◌then◌else◌, codes}
use Rattle.std.specs.List.{starts_with}
use Rattle.std.specs.Option.{option_and_then}
use Rattle.file_words.specs.declared.fault.ReadError.{ReadError}
use Rattle.file_words.specs.declared.fault.ReadError.TheVariants.{TooLarge, MaxIndex}
use Rattle.file_words.specs.Lines.{numbers_of}
use Rattle.ascii_file.specs.declared.header.Header.{Header}
use Rattle.ascii_file.specs.Headers.{header_in}

-- the header that a line spells: the letters aig, and then the numbers, each after one space
unfoldable pub header_of : List ℕ → Option Header
header_of line = if starts_with nat_eq line (codes "aig ") then option_and_then header_in (numbers_of (drop 4 line)) else None

-- the checks of a header; each variable is an input, a latch or a gate
abbrev pub binary_header_checks : Header → List (Bool × ReadError)
binary_header_checks h =
    (nat_lt (2 ^ 28 - 1) h.greatest, TooLarge 0)
    ∷ (nat_lt (2 ^ 24) h.outputs, TooLarge 0) ∷ (nat_lt (2 ^ 24) h.bad, TooLarge 0) ∷ (nat_lt (2 ^ 24) h.constraints, TooLarge 0)
    ∷ (nat_lt (2 ^ 24) h.justice, TooLarge 0) ∷ (nat_lt (2 ^ 24) h.fairness, TooLarge 0)
    ∷ (not (h.inputs + h.latches + h.gates == h.greatest), MaxIndex 0) ∷ []

-- the limits of a header
pub record IsHeaderWithin (h : Header) : Type 0 where
  pub greatest : h.greatest ≤ 2 ^ 28 - 1
  pub outputs : h.outputs ≤ 2 ^ 24
  pub bad : h.bad ≤ 2 ^ 24
  pub constraints : h.constraints ≤ 2 ^ 24
  pub justice : h.justice ≤ 2 ^ 24
  pub fairness : h.fairness ≤ 2 ^ 24
  pub total : h.inputs + h.latches + h.gates ≡ h.greatest
