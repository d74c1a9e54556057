use Rattle.frame_runs.proofs.bounding.with_after.Goals as goal

pub returns : goal.returns
returns c = λ d held s over after. record {
  same = over.same;
  saves = over.saves;
  prepared = record { marks = over.prepared.marks; after = after };
  report = over.report;
}
