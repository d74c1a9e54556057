use Rattle.std.proofs.Common.{◌≡◌, map, take}
use Rattle.command_endings.proofs.name_files.read_name_files.Given as goal

abbrev pub invariant-loop-source : goal.invariant-loop-source
invariant-loop-source g l = map (λ file. file.source) l.files.items ≡ take l.source-index l.sources
