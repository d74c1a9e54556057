use Rattle.std.proofs.Common.{◌≡◌, take}
use Rattle.ascii_file.proofs.parts.by_kind.literals.Given as goal

abbrev pub invariant-loop-code : goal.invariant-loop-code
invariant-loop-code l = l.literals.items ≡ take l.code-index l.codes
