use Rattle.std.proofs.Common.{◌≡◌, ◌-◌, length}
use Rattle.file_words.specs.Lines.{lines}
use Rattle.file_words.specs.Reading.{read_lines}
use Rattle.command_endings.specs.HeldNames.{texts_of}
use Rattle.command_endings.specs.NameFiles.{with_line, with_names}
use Rattle.command_endings.proofs.name_files.push_names.Given as goal

abbrev pub invariant-loop-line : goal.invariant-loop-line
invariant-loop-line l =
    with_names (texts_of l.fn.names.items) l.text ≡ read_lines with_line (l.lines.end - length l.lines.rest.now) (texts_of l.names.items) (lines l.lines.rest.now)

abbrev pub decreases-loop-line : goal.decreases-loop-line
decreases-loop-line l = length l.lines.rest.now
