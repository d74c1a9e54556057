-- The first line of a file.
use Rattle.std.specs.Prelude.{ℕ, ◌+◌, ◌^◌, ◌<◌, ◌≤◌, ◌&&◌, nat_eq, nat_le, List, length, drop, get_or, Option, Some, None, if◌then◌else◌, codes}
use Rattle.std.specs.List.{starts_with}
use Rattle.std.specs.Option.{option_and_then}
use Rattle.file_words.specs.Lines.{numbers_of}
use Rattle.ascii_file.specs.declared.header.Header.{Header}

-- the number at a place of the header, 0 if it isn't given
abbrev pub number_at : List ℕ → ℕ → ℕ
number_at ns k = get_or ns k 0

-- five to nine numbers: M I L O A B C J F
abbrev pub header_in : List ℕ → Option Header
header_in ns =
    if nat_le 5 (length ns) && nat_le (length ns) 9
    then Some (record {
      greatest = number_at ns 0;
      inputs = number_at ns 1;
      latches = number_at ns 2;
      outputs = number_at ns 3;
      gates = number_at ns 4;
      bad = number_at ns 5;
      constraints = number_at ns 6;
      justice = number_at ns 7;
      fairness = number_at ns 8;
    })
    else None

-- the header that a line spells: the letters aag, and then the numbers, each after one space
unfoldable pub header_of : List ℕ → Option Header
header_of line = if starts_with nat_eq line (codes "aag ") then option_and_then header_in (numbers_of (drop 4 line)) else None

-- the limits of a header
pub record IsHeaderWithin (h : Header) : Type 0 where
  pub greatest : h.greatest < 2 ^ 28
  pub outputs : h.outputs ≤ 2 ^ 24
  pub bad : h.bad ≤ 2 ^ 24
  pub constraints : h.constraints ≤ 2 ^ 24
  pub justice : h.justice ≤ 2 ^ 24
  pub fairness : h.fairness ≤ 2 ^ 24
  pub total : h.inputs + h.latches + h.gates ≤ h.greatest
