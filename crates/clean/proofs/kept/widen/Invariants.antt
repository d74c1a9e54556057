use Rattle.clean.specs.Kept.{SameLists}
use Rattle.clean.proofs.kept.widen.Given as goal

abbrev pub invariant-loop : goal.invariant-loop
invariant-loop l = SameLists l.fn.lists.items l.lists.items
