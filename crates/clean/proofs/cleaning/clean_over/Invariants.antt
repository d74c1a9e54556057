use Rattle.clean.proofs.CleaningLaws.{Passed}
use Rattle.clean.proofs.cleaning.clean_over.Given as goal

abbrev pub invariant-loop-before : goal.invariant-loop-before
invariant-loop-before l = Passed l.keep l.fn.circuit l.before l.last.circuit l.last.kept_free.items l.last.held.items

abbrev pub decreases-loop-before : goal.decreases-loop-before
decreases-loop-before l = l.before
