use Rattle.std.proofs.Common.{◌≡◌, drop}
use Rattle.command_endings.specs.HeldNames.{texts_of}
use Rattle.command_endings.proofs.NameFileLaws.{left}
use Rattle.command_endings.proofs.name_files.push_names_of.Given as goal

abbrev pub invariant-loop-file : goal.invariant-loop-file
invariant-loop-file l = left l.files (texts_of l.fn.names.items) ≡ left (drop l.file-index l.files) (texts_of l.names.items)
