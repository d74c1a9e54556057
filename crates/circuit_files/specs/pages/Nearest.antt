-- The nearest of some names: the first of those to which the fewest edits lead.
use Rattle.std.specs.Prelude.{ℕ, ◌+◌, ◌-◌, ◌/◌, ◌==◌, ◌&&◌, nat_eq, nat_le, Bool, List, length, map, position, slice_get, Option, Some, None, option_and_then, if◌then◌else◌}
use Rattle.strsim.specs.Edits.{levenshtein_row}
use Rattle.circuit_files.specs.declared.pages.named_fault.Fault.{Fault}
use Rattle.circuit_files.specs.pages.Faults.{all_faults, name_of}

-- a name is short, and the other about as long
abbrev pub are_alike_in_length : List ℕ → List ℕ → Bool
are_alike_in_length name other = nat_le (length name) 64 && nat_le ((length name - length other) + (length other - length name)) 2

-- edits that leave half of a name's bytes, and others, which count as far
abbrev pub near_edits : ℕ → ℕ → ℕ
near_edits size count = if nat_le count (size / 2) then count else 3

-- how many edits make one name of the other; names unlike in length aren't compared
unfoldable pub edits : List ℕ → List ℕ → ℕ
edits name other = if are_alike_in_length name other then near_edits (length name) (levenshtein_row nat_eq name other (length other)) else 3

abbrev pub or_else : Option ℕ → Option ℕ → Option ℕ
or_else None later = later
or_else (Some place) later = Some place

-- the place of the first 0 among the numbers of edits, else of the first 1, else of the first 2
unfoldable pub nearest_of : List ℕ → Option ℕ
nearest_of counts =
    or_else (position (λ count. count == 0) counts)
    (or_else (position (λ count. count == 1) counts) (position (λ count. count == 2) counts))

-- the fault whose name is the nearest
abbrev pub nearest_fault : List ℕ → Option Fault
nearest_fault name = option_and_then (slice_get all_faults) (nearest_of (map (λ fault. edits name (name_of fault)) all_faults))
