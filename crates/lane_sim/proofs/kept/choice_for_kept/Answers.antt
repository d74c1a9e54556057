use Rattle.std.proofs.Common.{Bool, List, false, [], ◌∷◌, ◌++◌, ◌∙◌, ap, ap₂, get_or, map, sym}
use Rattle.std.specs.List.{slice_index_or}
use Rattle.std.proofs.lemmas.List.{map_more, take_all}
use Rattle.lane_sim.specs.Traces.{choice_of}
use Rattle.lane_sim.proofs.kept.choice_for_kept.Goals as goal

pub loop-place-preserved : goal.loop-place-preserved
loop-place-preserved c =
    c.in_ok-push.ensures.items
    ∙ ap₂ (λ xs x. xs ++ x ∷ []) c.loop-place.invariant (c.digit_at.ensures ∙ ap (λ (xs : List Bool). slice_index_or xs (get_or c.args.kept.now c.loop-place.place-index 0) false) c.as_slice-choice.ensures)
    ∙ sym (map_more (choice_of c.args.sequence.now) c.args.kept.now _ 0 c.loop-place-test.true)

pub returns : goal.returns
returns c = c.from_vec.ensures ∙ c.loop-place.invariant ∙ ap (map (choice_of c.args.sequence.now)) (take_all _ _ c.loop-place-test.false)
