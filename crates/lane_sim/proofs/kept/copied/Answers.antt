use Rattle.std.proofs.Common.{◌∙◌, refl}
use Rattle.std.proofs.lemmas.List.{take_all}
use Rattle.aig_graph.proofs.PushLaws.{pushed-same}
use Rattle.lane_sim.proofs.kept.copied.Goals as goal

pub loop-step-preserved : goal.loop-step-preserved
loop-step-preserved c =
    pushed-same _ _ _ _ refl c.loop-step-test.true c.step-item.is c.loop-step.invariant (c.from_vec.ensures ∙ c.in_ok-to_vec.ensures.items_if_clones_equal (λ x y same. same) ∙ c.as_slice.ensures) c.in_ok-push.ensures.items

pub returns : goal.returns
returns c = c.from_vec-2.ensures ∙ c.loop-step.invariant ∙ take_all _ _ c.loop-step-test.false
