use Rattle.std.proofs.Common.{[], ◌∷◌, ◌++◌, ◌∙◌, ap₂, refl, sym}
use Rattle.std.specs.Prelude.{slice_index}
use Rattle.std.proofs.lemmas.List.{map_more}
use Rattle.clean.proofs.cleaning.composed.Goals as goal

pub loop-place-preserved : goal.loop-place-preserved
loop-place-preserved c =
    c.in_ok-push.ensures.items ∙ ap₂ (λ xs x. xs ++ x ∷ []) c.loop-place.invariant refl ∙ sym (map_more (slice_index c.args.first.now) c.args.second.now _ 0 c.loop-place-test.true)
