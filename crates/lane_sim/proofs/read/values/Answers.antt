use Rattle.std.proofs.Common.{ℕ, ◌==◌, [], ◌∷◌, ◌++◌, ◌∙◌, ap, ap₂, refl, sym}
use Rattle.std.proofs.lemmas.List.{map_more, take_all}
use Rattle.lane_sim.specs.Stimuli.{values_of}
use Rattle.lane_sim.proofs.read.values.Goals as goal

pub loop-digit-preserved : goal.loop-digit-preserved
loop-digit-preserved c =
    c.in_ok-push.ensures.items ∙ ap₂ (λ xs x. xs ++ x ∷ []) c.loop-digit.invariant refl ∙ sym (map_more (λ (b : ℕ). b == 49) c.args.digits.now _ 0 c.loop-digit-test.true)

pub returns : goal.returns
returns c = c.from_vec.ensures ∙ c.loop-digit.invariant ∙ ap values_of (take_all _ _ c.loop-digit-test.false)
