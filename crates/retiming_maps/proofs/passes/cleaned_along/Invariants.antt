use Rattle.clean.proofs.CleaningLaws.{Passed}
use Rattle.retiming_maps.specs.Mapping.{LeadsOn}
use Rattle.retiming_maps.proofs.passes.cleaned_along.Given as goal

abbrev pub invariant-loop-before : goal.invariant-loop-before
invariant-loop-before l = record {
  passed : Passed l.keep l.circuit l.before l.last.circuit l.last.kept_free.items l.last.held.items;
  leads : LeadsOn l.circuit l.fn.parts l.last.circuit l.last.kept_free.items l.parts;
}

abbrev pub decreases-loop-before : goal.decreases-loop-before
decreases-loop-before l = l.before
