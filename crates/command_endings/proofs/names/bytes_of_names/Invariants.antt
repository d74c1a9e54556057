use Rattle.std.proofs.Common.{◌≡◌, map, take}
use Rattle.command_endings.proofs.names.bytes_of_names.Given as goal

abbrev pub invariant-loop-name : goal.invariant-loop-name
invariant-loop-name l = map (λ name. name.items) l.names.items ≡ map (λ name. name.now) (take l.name-index l.keep)
