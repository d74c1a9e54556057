use Rattle.std.proofs.Common.{◌≡◌, ◌-◌, length, map}
use Rattle.file_words.specs.Lines.{lines}
use Rattle.file_words.specs.Reading.{read_lines}
use Rattle.circuit_files.specs.Entries.{paths}
use Rattle.circuit_files.specs.Lists as lists
use Rattle.circuit_files.proofs.read.read_list.Given as goal

abbrev pub invariant-loop-line : goal.invariant-loop-line
invariant-loop-line l = lists.read_list l.bytes ≡ read_lines lists.read_line (l.lines.end - length l.lines.rest.now) (map paths l.entries.items) (lines l.lines.rest.now)

abbrev pub decreases-loop-line : goal.decreases-loop-line
decreases-loop-line l = length l.lines.rest.now
