use Rattle.std.proofs.Common.{◌∙◌, ap, refl}
use Rattle.aig_graph.proofs.PushLaws.{all_taken}
use Rattle.json_reports.specs.Retimings.{merged_lines}
use Rattle.json_reports.proofs.MergedLineLaws.{lines-more}
use Rattle.json_reports.proofs.retiming.merged_lines.Goals as goal

pub loop-part-preserved : goal.loop-part-preserved
loop-part-preserved c = lines-more _ _ _ c.loop-part-test.true c.part-item.is c.loop-part.invariant c.in_ok-all.ensures

pub returns : goal.returns
returns c = c.loop-part.invariant ∙ ap merged_lines (all_taken _ _ _ refl c.loop-part-test.false)
