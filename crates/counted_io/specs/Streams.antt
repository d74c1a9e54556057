-- What the paths of a command line stand for.
use Rattle.std.specs.Prelude.{ℕ, Bool, true, false, List, codes, if◌then◌else◌}
use Rattle.std.specs.Borrow.{Bor}
use Rattle.std.specs.Str.{bytes_eq}
use Rattle.counted_io.specs.declared.source.Source.{Source}
use Rattle.counted_io.specs.declared.source.Source.TheVariants as sources
use Rattle.counted_io.specs.declared.target.Target.{Target}
use Rattle.counted_io.specs.declared.target.Target.TheVariants as targets

-- whether a path stands for a standard stream
abbrev pub is_stream : List ℕ → Bool
is_stream path = bytes_eq path (codes "-")

-- what a path that is read stands for
abbrev pub source_of : Bor (List ℕ) → Source
source_of path = if is_stream path.now then sources.Stdin else sources.File path

-- what a path that is written stands for
abbrev pub target_of : Bor (List ℕ) → Target
target_of path = if is_stream path.now then targets.Stdout else targets.File path

-- whether a source is standard input
abbrev pub is_stdin : Source → Bool
is_stdin sources.Stdin = true
is_stdin (sources.File path) = false

-- whether a target is standard output
abbrev pub is_stdout : Target → Bool
is_stdout targets.Stdout = true
is_stdout (targets.File path) = false

-- how messages name what is read
abbrev pub source_name : Source → List ℕ
source_name sources.Stdin = codes "stdin"
source_name (sources.File path) = path.now

-- how messages name what is written
abbrev pub target_name : Target → List ℕ
target_name targets.Stdout = codes "stdout"
target_name (targets.File path) = path.now
