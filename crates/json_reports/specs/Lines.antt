-- An object of JSON on a line, and what printing it does.
use Rattle.std.specs.Prelude.{ℕ, ◌≡◌, ◌≤◌, List, [], ◌∷◌, ◌++◌, Some, false, Result, Ok, Err}
use Rattle.counted_io.specs.Output.{Output, WritesAll, WritesPart}
use Rattle.serde_json.specs.Data.{Data, depth}
use Rattle.serde_json.specs.Read.{read, max_depth}
use Rattle.serde_json.specs.View.{view}
use Rattle.serde_json.specs.declared.value.Value.{Value}
use Rattle.serde_json.specs.Written.{compact_text, has_float}
use Rattle.json_reports.specs.declared.printing.PrintError.{PrintError}
use Rattle.json_reports.specs.declared.printing.PrintError.TheVariants.{NoMemory, Device}

-- the value without a space, and a newline
abbrev pub json_line : Data → List ℕ
json_line d = compact_text d ++ 10 ∷ []

-- no number is a float, and arrays and objects nest no deeper than readers take
pub record IsPlain (d : Data) : Type 0 where
  pub whole : has_float d ≡ false
  pub nests : depth d ≤ max_depth

-- all of the line is written and reads back; a beginning of it if a write failed; nothing if memory
-- was refused
abbrev pub PrintsLine : {T : Type 0} → Data → Output → Output → Result T PrintError → Type 0
PrintsLine d old new (Ok x) = WritesAll old new (json_line d) × (read (compact_text d) ≡ Some d)
PrintsLine d old new (Err Device) = WritesPart old new (json_line d)
PrintsLine d old new (Err NoMemory) = new ≡ old

-- so for a value that was to be made, if it is plain; if it wasn't made, memory was refused
abbrev pub PrintsMade : {T E : Type 0} → Result Value E → Output → Output → Result T PrintError → Type 0
PrintsMade (Ok value) old new result = IsPlain (view value) → PrintsLine (view value) old new result
PrintsMade (Err e) old new result = (result ≡ Err NoMemory) × (new ≡ old)
