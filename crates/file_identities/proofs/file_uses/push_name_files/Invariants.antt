use Rattle.std.proofs.Common.{◌≡◌, ◌++◌, map, take}
use Rattle.file_identities.specs.FileUses.{name_file}
use Rattle.file_identities.proofs.file_uses.push_name_files.Given as goal

abbrev pub invariant-loop-source : goal.invariant-loop-source
invariant-loop-source g l =
    map (λ asked. asked.file) l.files.items ≡ map (λ asked. asked.file) l.fn.files.items ++ map name_file (take l.source-index l.names)
