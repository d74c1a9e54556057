use Rattle.std.proofs.Common.{◌∙◌, ap, map, refl}
use Rattle.std.proofs.lemmas.List.{take_all}
use Rattle.aig_graph.proofs.PushLaws.{pushed}
use Rattle.lane_sim.specs.Kept.{for_kept}
use Rattle.lane_sim.proofs.kept.sequences_for_kept.Goals as goal

pub loop-sequence-preserved : goal.loop-sequence-preserved
loop-sequence-preserved c =
    pushed _ _ _ (for_kept c.args.kept.now) _ refl c.loop-sequence-test.true c.sequence-item.is c.loop-sequence.invariant c.in_ok-sequence_for_kept.ensures c.in_ok-push.ensures.items

pub returns : goal.returns
returns c = c.loop-sequence.invariant ∙ ap (map (for_kept c.args.kept.now)) (take_all _ _ c.loop-sequence-test.false)
