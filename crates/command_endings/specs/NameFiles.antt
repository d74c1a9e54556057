-- Names of latches that stand in files, a name a line.
use Rattle.std.specs.Prelude.{ℕ, ◌≡◌, ◌==◌, ◌++◌, List, [], ◌∷◌, length, Option, Some, None, Result, Ok, Err, option_map, if◌then◌else◌}
use Rattle.file_words.specs.Answering.{◌>>=◌}
use Rattle.file_words.specs.Lines.{lines}
use Rattle.file_words.specs.Reading.{read_lines}
use Rattle.command_line.specs.declared.task.Task.{Task}
use Rattle.command_line.specs.declared.task.Task.TheVariants.{Retime, Move, Verify, Dot}
use Rattle.command_endings.specs.HeldNames.{texts_of}
use Rattle.circuit_files.specs.Entries.{text_of}
use Rattle.circuit_files.specs.declared.fault.ListError.{ListError}
use Rattle.circuit_files.specs.declared.fault.ListError.TheVariants.{BadLine}

-- the names with one more, which is UTF-8
abbrev pub with_name : ℕ → List (List ℕ) → Option (List ℕ) → Result (List (List ℕ)) ListError
with_name at names None = Err (BadLine at)
with_name at names (Some name) = Ok (names ++ name ∷ [])

-- the names after one more line, which begins at an offset; an empty line is no name
abbrev pub with_line : ℕ → List (List ℕ) → List ℕ → Result (List (List ℕ)) ListError
with_line at names line = if length line == 0 then Ok names else with_name at names (text_of line)

-- the names after those of a text, or the first line at fault
abbrev pub with_names : List (List ℕ) → List ℕ → Result (List (List ℕ)) ListError
with_names names text = read_lines with_line 0 names (lines text)

-- the names after those of texts, one after another
unfoldable pub with_names_of : List (List ℕ) → List (List ℕ) → Result (List (List ℕ)) ListError
with_names_of names [] = Ok names
with_names_of names (text ∷ texts) = with_names names text >>= λ more. with_names_of more texts

-- the names of the latches that a task holds, if it may hold some
abbrev pub held_names : Task → Option (List (List ℕ))
held_names (Retime retiming) = Some (texts_of retiming.options.keep.items)
held_names (Move moving) = Some (texts_of moving.options.keep.items)
held_names (Verify verification) = Some (texts_of verification.options.keep.items)
held_names (Dot drawing) = Some (texts_of drawing.options.keep.items)
held_names _ = None

-- the names that the task holds are those of before, and after them those of texts
abbrev pub AddsNames : List (List ℕ) → Task → Task → Type 0
AddsNames texts old new = option_map (λ names. with_names_of names texts) (held_names old) ≡ option_map (λ names. Ok names) (held_names new)
