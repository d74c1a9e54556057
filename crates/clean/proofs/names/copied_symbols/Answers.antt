use Rattle.std.proofs.Common.{[], ◌∷◌, ◌++◌, ◌∙◌, ap₂, sym}
use Rattle.std.proofs.lemmas.List.{take_more}
use Rattle.clean.proofs.names.copied_symbols.Goals as goal

pub loop-name-preserved : goal.loop-name-preserved
loop-name-preserved c =
    let within = rw c.as_slice-name-items.ensures at c.loop-name-test.true in
    let there = rw c.as_slice-name-items.ensures at c.name-item.is in
    c.in_ok-push.ensures.items ∙ ap₂ (λ xs x. xs ++ x ∷ []) c.loop-name.invariant (c.in_ok-at.ensures ∙ there) ∙ sym (take_more _ _ _ within)
