use Rattle.std.proofs.Common.{◌≡◌, ◌++◌}
use Rattle.reports.specs.waves.Names.{words_before}
use Rattle.reports.proofs.waves.names.add_justice.Given as goal

abbrev pub invariant-loop-k : goal.invariant-loop-k
invariant-loop-k l = l.names.items ≡ l.fn.names.items ++ words_before l.justice l.k
