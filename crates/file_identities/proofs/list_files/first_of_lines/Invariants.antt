use Rattle.std.proofs.Common.{Option, drop}
use Rattle.file_identities.specs.ListFiles.{IsFirstOfLines}
use Rattle.file_identities.specs.declared.clash.FileClash.{FileClash}
use Rattle.file_identities.proofs.list_files.first_of_lines.Given as goal

abbrev pub invariant-loop-entry : goal.invariant-loop-entry
invariant-loop-entry g l =
    (found : Option FileClash) → IsFirstOfLines l.printed l.list (drop l.entry-index l.entries) found → IsFirstOfLines l.printed l.list l.entries found
