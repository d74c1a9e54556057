use Rattle.std.proofs.Common.{◌∙◌, ap, length, map, refl}
use Rattle.std.proofs.lemmas.List.{take_all}
use Rattle.aig_graph.proofs.PushLaws.{pushed}
use Rattle.lane_sim.specs.declared.stimulus.InputSequence.{InputSequence}
use Rattle.lane_sim.proofs.trace.lengths.Goals as goal

pub loop-sequence-preserved : goal.loop-sequence-preserved
loop-sequence-preserved c =
    pushed _ _ _ (λ (s : InputSequence). length s.steps) _ refl c.loop-sequence-test.true c.sequence-item.is c.loop-sequence.invariant c.len.ensures c.in_ok-push.ensures.items

pub returns : goal.returns
returns c = c.loop-sequence.invariant ∙ ap (map (λ (s : InputSequence). length s.steps)) (take_all _ _ c.loop-sequence-test.false)
