-- The paths of an entry, and the text of bytes.
use Rattle.std.specs.Prelude.{ℕ, List, Option, Some, None, if◌then◌else◌}
use Rattle.std.specs.Str.{is_utf8}
use Rattle.circuit_files.specs.Lists.{Paths}
use Rattle.circuit_files.specs.declared.entry.Entry.{Entry}

-- the bytes of an entry's paths
abbrev pub paths : Entry → Paths
paths entry = record { input = entry.input.now; output = entry.output.now }

-- the bytes, if they are UTF-8
abbrev pub text_of : List ℕ → Option (List ℕ)
text_of bytes = if is_utf8 bytes then Some bytes else None
