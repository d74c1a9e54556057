use Rattle.std.proofs.Common.{◌≡◌, map, take}
use Rattle.file_identities.specs.FileUses.{given}
use Rattle.file_identities.proofs.file_uses.ask_all.Given as goal

abbrev pub invariant-loop-file : goal.invariant-loop-file
invariant-loop-file g l = map (λ asked. asked.file) l.files.items ≡ given (take l.file-index l.uses)
