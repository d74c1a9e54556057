-- Which files of a command line can't be one file, and the first two of them that are.
use Rattle.std.specs.Prelude.{◌≡◌, ◌==◌, ◌&&◌, ◌||◌, not, Bool, true, false, List, [], ◌∷◌, Option, Some, None, All, map, option_map, if◌then◌else◌}
use Rattle.std.specs.List.{find}
use Rattle.std.specs.Option.{option_or}
use Rattle.std.specs.Str.{bytes_eq}
use Rattle.std.specs.String.{string_bytes}
use Rattle.command_line.specs.declared.task.Task.{Task}
use Rattle.file_identities.specs.FileUses.{files_read_by, written_by}
use Rattle.file_identities.specs.declared.clash.FileClash.{FileClash}
use Rattle.file_identities.specs.declared.clash.FileClash.TheVariants.{WrittenTwice, WrittenOver}
use Rattle.file_identities.specs.declared.file_use.FileUse.{FileUse}
use Rattle.file_identities.specs.declared.file_use.Place.{Place}
use Rattle.file_identities.specs.declared.file_use.Place.TheVariants as places
use Rattle.file_identities.specs.declared.file_use.Role.{Role}
use Rattle.file_identities.specs.declared.file_use.Role.TheVariants as roles
use Rattle.file_identities.specs.declared.identity.Asked.{Asked}
use Rattle.file_identities.specs.declared.identity.Identity.{Identity}
use Rattle.file_identities.specs.declared.identity.Keeping.{Keeping}
use Rattle.file_identities.specs.declared.identity.Keeping.TheVariants.{Bytes, Pipe, Device}

-- whether a file of this role is written
abbrev pub is_written : Role → Bool
is_written roles.Original = false
is_written roles.Read = false
is_written roles.Remade = true
is_written roles.Written = true
is_written roles.Lines = true
is_written roles.LineInstead = true

-- Whether two that are written may stand in one file. Lines follow one another, of two circuits of
-- a list the later one stands, and a line in place of what is written stands alone.
abbrev pub stand_together : Role → Role → Bool
stand_together roles.Lines roles.Lines = true
stand_together roles.Remade roles.Remade = true
stand_together roles.Remade roles.LineInstead = true
stand_together roles.Written roles.LineInstead = true
stand_together _ _ = false

-- whether `-` stands for it
abbrev pub is_stream_place : Place → Bool
is_stream_place places.Stdin = true
is_stream_place places.Stdout = true
is_stream_place places.Stderr = false
is_stream_place (places.File path) = false

abbrev pub is_stderr : Place → Bool
is_stderr places.Stdin = false
is_stderr places.Stdout = false
is_stderr places.Stderr = true
is_stderr (places.File path) = false

-- whether a file is made anew there, in place of one that is there
abbrev pub is_path : Place → Bool
is_path places.Stdin = false
is_path places.Stdout = false
is_path places.Stderr = false
is_path (places.File path) = true

-- whether what is written there, in this role, may take the place of what is read
abbrev pub replaces_at : Place → Role → Role → Bool
replaces_at place roles.Remade roles.Original = is_path place
replaces_at place _ _ = false

-- whether what is written may take the place of what is read: a path is made anew, a stream isn't
abbrev pub replaces : FileUse → FileUse → Bool
replaces first second = replaces_at first.place first.role second.role

-- whether the one or the other is standard error
abbrev pub is_aside : FileUse → FileUse → Bool
is_aside first second = is_stderr first.place || is_stderr second.place

-- whether two that are written lose nothing as one pipe or device
abbrev pub is_shared : FileUse → FileUse → Bool
is_shared first second = stand_together first.role second.role || is_aside first second

-- whether something is lost if the first of two, which is written, and the second are one file
abbrev pub loses : Keeping → FileUse → FileUse → Bool
loses Bytes first second = not (replaces first second || stand_together first.role second.role)
loses Pipe first second = is_written second.role && not (is_shared first second)
loses Device first second = (is_written second.role && not (is_shared first second)) && (is_stream_place first.place || is_stream_place second.place)

-- whether two paths lead to one file, or to one that would be made
abbrev pub is_same : Identity → Identity → Bool
is_same first second =
    first.device == second.device && (first.node == second.node && bytes_eq (string_bytes first.name) (string_bytes second.name))

-- so by what the file system answered, if it did
abbrev pub clash_at : FileUse → FileUse → Option Identity → Option Identity → Bool
clash_at first second (Some one) (Some other) = is_same one other && loses one.keeping first second
clash_at first second (Some one) None = false
clash_at first second None other = false

-- whether two files, of which the first is written, can't be one and are
abbrev pub clash : Asked → Asked → Bool
clash first second = clash_at first.file second.file first.identity second.identity

-- what is said of them
abbrev pub clash_of : Asked → Asked → FileClash
clash_of first second =
    if is_written second.file.role then WrittenTwice first.file second.file else WrittenOver first.file second.file

-- the first of some files that clashes with one that is written
abbrev pub clash_among : Asked → List Asked → Option FileClash
clash_among first others = option_map (clash_of first) (find (clash first) others)

-- so of those that are written after it, else of those that are read
abbrev pub clash_with : Asked → List Asked → List Asked → Option FileClash
clash_with first later read = option_or (clash_among first later) (clash_among first read)

-- the first clash of a written file with one written after it, or with one read
abbrev pub first_clash : List Asked → List Asked → Option FileClash
first_clash [] read = None
first_clash (first ∷ later) read = option_or (clash_with first later read) (first_clash later read)

-- no written file clashes with one written after it, or with one read
abbrev pub AreFilesApart : List Asked → List Asked → Type 0
AreFilesApart [] read = Unit {0}
AreFilesApart (first ∷ later) read =
    All (λ other. clash first other ≡ false) later × (All (λ other. clash first other ≡ false) read × AreFilesApart later read)

-- the files are all that a task writes and reads
pub record AreFilesOf (task : Task) (written read : List Asked) : Type 0 where
  pub writes : map (λ asked. asked.file) written ≡ written_by task
  pub reads : map (λ asked. asked.file) read ≡ files_read_by task

-- the first clash of a task's files, by some answers of the file system
pub record IsClashOf (task : Task) (found : Option FileClash) : Type 0 where
  pub written : List Asked
  pub read : List Asked
  pub are : AreFilesOf task written read
  pub first : found ≡ first_clash written read
