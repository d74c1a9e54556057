-- The files of a list. What is printed and the circuits that are made are written, the list and the
-- circuits that are retimed are read.
use Rattle.std.specs.Prelude.{◌≡◌, ◌⊎◌, true, List, [], ◌∷◌, map, Option, None, is_some}
use Rattle.counted_io.specs.declared.source.Source.{Source}
use Rattle.circuit_files.specs.declared.entry.Entry.{Entry}
use Rattle.file_identities.specs.Clashes.{AreFilesApart, clash_among, first_clash}
use Rattle.file_identities.specs.FileUses.{printed_use, reading}
use Rattle.file_identities.specs.declared.clash.FileClash.{FileClash}
use Rattle.file_identities.specs.declared.file_use.Argument.TheVariants.{In, Out, List as ListFile}
use Rattle.file_identities.specs.declared.file_use.FileUse.{FileUse}
use Rattle.file_identities.specs.declared.file_use.Place.TheVariants as places
use Rattle.file_identities.specs.declared.file_use.Role.TheVariants as roles
use Rattle.file_identities.specs.declared.identity.Asked.{Asked}

-- the circuit that a line writes
abbrev pub output_use : Entry → FileUse
output_use entry = record { argument = Out; role = roles.Remade; place = places.File entry.output }

-- the circuit that it reads, whose place what is written may take
abbrev pub input_use : Entry → FileUse
input_use entry = record { argument = In; role = roles.Original; place = places.File entry.input }

-- the first clash of a line: what is printed and its OUT are written, the list and its IN are read
pub record IsLineClash (printed listed : Asked) (entry : Entry) (found : Option FileClash) : Type 0 where
  pub output : Asked
  pub input : Asked
  pub writes : output.file ≡ output_use entry
  pub reads : input.file ≡ input_use entry
  pub first : found ≡ first_clash (printed ∷ output ∷ []) (listed ∷ input ∷ [])

-- that of the first line that has one, else of what is printed and the list
abbrev pub IsFirstOfLines : Asked → Asked → List Entry → Option FileClash → Type 0
IsFirstOfLines printed listed [] found = found ≡ clash_among printed (listed ∷ [])
IsFirstOfLines printed listed (entry ∷ later) found =
    ((is_some found ≡ true) × IsLineClash printed listed entry found)
    ⊎ (IsLineClash printed listed entry None × IsFirstOfLines printed listed later found)

-- so of a list, by some answers of the file system
pub record IsListClash (list : Source) (entries : List Entry) (found : Option FileClash) : Type 0 where
  pub printed : Asked
  pub listed : Asked
  pub prints : printed.file ≡ printed_use
  pub reads : listed.file ≡ reading ListFile list
  pub first : IsFirstOfLines printed listed entries found

-- no file that a list's run writes clashes with one written after it, or with one read
pub record AreListFilesApart (list : Source) (entries : List Entry) : Type 0 where
  pub written : List Asked
  pub read : List Asked
  pub writes : map (λ asked. asked.file) written ≡ printed_use ∷ map output_use entries
  pub reads : map (λ asked. asked.file) read ≡ reading ListFile list ∷ map input_use entries
  pub apart : AreFilesApart written read
