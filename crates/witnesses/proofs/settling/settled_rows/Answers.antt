use Rattle.std.proofs.Common.{◌∙◌, ap, map, refl}
use Rattle.std.proofs.lemmas.List.{take_all}
use Rattle.aig_graph.proofs.PushLaws.{pushed}
use Rattle.witnesses.specs.Runs.{taken_digit}
use Rattle.witnesses.proofs.settling.settled_rows.Goals as goal

pub loop-row-preserved : goal.loop-row-preserved
loop-row-preserved c =
    pushed _ _ _ (map taken_digit) _ refl c.loop-row-test.true c.row-item.is c.loop-row.invariant (c.in_ok-settled_row.ensures ∙ ap (map taken_digit) c.as_slice.ensures) c.in_ok-push.ensures.items

pub returns : goal.returns
returns c = c.from_vec.ensures ∙ c.loop-row.invariant ∙ ap (map (map taken_digit)) (take_all _ _ c.loop-row-test.false)
