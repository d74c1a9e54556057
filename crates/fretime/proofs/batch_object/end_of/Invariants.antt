use Rattle.std.proofs.Common.{◌≡◌, fold, take}
use Rattle.circuit_files.specs.declared.outcome.Outcome.TheVariants.{Done}
use Rattle.fretime.specs.Batches.{after}
use Rattle.fretime.proofs.batch_object.end_of.Given as goal

abbrev pub invariant-loop-report : goal.invariant-loop-report
invariant-loop-report l = l.ended ≡ fold after Done (take l.report-index l.reports)
