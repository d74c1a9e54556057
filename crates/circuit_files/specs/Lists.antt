-- The text of a list.
use Rattle.std.specs.Prelude.{ℕ, ◌+◌, ◌^◌, ◌==◌, ◌&&◌, not, ◌++◌, List, [], ◌∷◌, length, take, drop, position, Option, Some, None, Result, Ok, Err, if◌then◌else◌}
use Rattle.std.specs.List.{list_any}
use Rattle.std.specs.Str.{is_utf8}
use Rattle.file_words.specs.Lines.{lines}
use Rattle.file_words.specs.Reading.{read_lines}
use Rattle.circuit_files.specs.declared.fault.ListError.{ListError}
use Rattle.circuit_files.specs.declared.fault.ListError.TheVariants.{BadLine, TooLarge}

-- the path of a file to read, and that of the file to write
pub record Paths : Type 0 where
  pub input : List ℕ
  pub output : List ℕ

-- the paths before and after the first tab of a line: there is no other, and both are UTF-8
abbrev pub paths_apart : List ℕ → List ℕ → Option Paths
paths_apart input output =
    if not (list_any (λ b. b == 9) output) && (is_utf8 input && is_utf8 output) then Some (record { input = input; output = output }) else None

-- the paths before and after a place of a line
abbrev pub paths_around : List ℕ → Option ℕ → Option Paths
paths_around line None = None
paths_around line (Some at) = paths_apart (take at line) (drop (at + 1) line)

-- the paths of a line, if it is two with a tab between
abbrev pub paths_of : List ℕ → Option Paths
paths_of line = paths_around line (position (λ b. b == 9) line)

-- the files after one more line with these paths, or its fault: it has none, or there are 2^20
-- lines before it
abbrev pub with_line : ℕ → List Paths → Option Paths → Result (List Paths) ListError
with_line at files None = Err (BadLine at)
with_line at files (Some paths) = if length files == 2 ^ 20 then Err (TooLarge at) else Ok (files ++ paths ∷ [])

-- the files after one more line, which begins at an offset, or its fault
abbrev pub read_line : ℕ → List Paths → List ℕ → Result (List Paths) ListError
read_line at files line = with_line at files (paths_of line)

-- the files of a list, or its first fault
abbrev pub read_list : List ℕ → Result (List Paths) ListError
read_list bytes = read_lines read_line 0 [] (lines bytes)
