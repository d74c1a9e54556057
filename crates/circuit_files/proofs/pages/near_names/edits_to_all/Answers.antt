use Rattle.std.proofs.Common.{ℕ, List, [], ◌∷◌, ◌++◌, ◌∙◌, ap, ap₂, map, sym}
use Rattle.std.proofs.lemmas.List.{map_more, take_all}
use Rattle.circuit_files.specs.pages.Nearest.{edits}
use Rattle.circuit_files.proofs.pages.near_names.edits_to_all.Goals as goal

pub loop-other-preserved : goal.loop-other-preserved
loop-other-preserved c =
    c.in_ok-push.ensures.items ∙ ap₂ (λ (xs : List ℕ) (x : ℕ). xs ++ x ∷ []) c.loop-other.invariant c.in_ok-edits.ensures
    ∙ sym (map_more (λ other. edits c.args.name.now other.now) _ _ _ c.loop-other-test.true)

pub returns : goal.returns
returns c = c.loop-other.invariant ∙ ap (map (λ other. edits c.args.name.now other.now)) (take_all _ _ c.loop-other-test.false)
