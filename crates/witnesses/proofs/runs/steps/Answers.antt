use Rattle.std.proofs.Common.{◌∙◌, ap, map, refl}
use Rattle.std.proofs.lemmas.List.{take_all}
use Rattle.aig_graph.proofs.PushLaws.{pushed}
use Rattle.witnesses.specs.Runs.{is_one}
use Rattle.witnesses.proofs.runs.steps.Goals as goal

pub loop-row-preserved : goal.loop-row-preserved
loop-row-preserved c =
    pushed _ _ _ (map is_one) _ refl c.loop-row-test.true c.row-item.is c.loop-row.invariant (c.in_ok-values.ensures ∙ ap (map is_one) c.as_slice.ensures) c.in_ok-push.ensures.items

pub returns : goal.returns
returns c = c.from_vec.ensures ∙ c.loop-row.invariant ∙ ap (map (map is_one)) (take_all _ _ c.loop-row-test.false)
