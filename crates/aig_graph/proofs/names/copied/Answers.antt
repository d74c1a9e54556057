use Rattle.std.proofs.Common.{◌∙◌}
use Rattle.aig_graph.proofs.PushLaws.{all_taken, pushed-same}
use Rattle.aig_graph.proofs.names.copied.Goals as goal

pub loop-name-preserved : goal.loop-name-preserved
loop-name-preserved c =
    pushed-same _ _ _ _ c.as_slice-name-items.ensures c.loop-name-test.true c.name-item.is c.loop-name.invariant c.in_ok-at.ensures c.in_ok-push.ensures.items

pub returns : goal.returns
returns c = c.from_vec.ensures ∙ c.loop-name.invariant ∙ all_taken _ _ _ c.as_slice-name-items.ensures c.loop-name-test.false
