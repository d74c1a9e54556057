use Rattle.std.proofs.Common.{◌≡◌, map, take}
use Rattle.command_line.specs.Asking.{number_of}
use Rattle.command_line.proofs.values.numbers_of.Given as goal

abbrev pub invariant-loop-text : goal.invariant-loop-text
invariant-loop-text l = l.numbers.items ≡ map number_of (map (λ text. text.now) (take l.text-index l.texts))
