use Rattle.std.proofs.Common.{ℕ, Bor, List, [], ◌∷◌, ◌++◌, ◌∙◌, ap, ap₂, map, sym}
use Rattle.std.proofs.lemmas.List.{map_more, map_push}
use Rattle.command_line.specs.Asking.{number_of}
use Rattle.command_line.proofs.values.numbers_of.Goals as goal

pub loop-text-preserved : goal.loop-text-preserved
loop-text-preserved c =
    c.in_ok-push.ensures.items ∙ ap₂ (λ (xs : List ℕ) (x : ℕ). xs ++ x ∷ []) c.loop-text.invariant c.number_of.ensures
    ∙ sym (ap (map number_of) (map_more (λ (text : Bor (List ℕ)). text.now) _ _ _ c.loop-text-test.true) ∙ map_push number_of _ _)
